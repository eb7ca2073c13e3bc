-- `numbering::new_ids` meets its contract. The loop's invariant: the first s ids are renumbered, the others as they were.
use mathlib.Core.Path.{◌≡◌}
use lib.ListN.{take}
use Rattle.pool.specs.Lists.{map_to}
use Rattle.numbering.specs.Number.{renumber}
use Rattle.numbering.proofs.new_ids.Given as goal

abbrev pub invariant-loop-id : goal.invariant-loop-id
invariant-loop-id l = l.ids ≡ map_to (renumber (take l.m l.ws)) l.id-index l.initial.ids
