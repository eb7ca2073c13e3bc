-- The loop's invariant: the ids so far are lowered, the others as they were.
use mathlib.Core.Path.{◌≡◌}
use Rattle.rooms.specs.Dense.{lower}
use Rattle.pool.specs.Lists.{map_to}
use Rattle.watershed.proofs.form.lower_ids.Given as goal

abbrev pub invariant-loop-r : goal.invariant-loop-r
invariant-loop-r l = l.ids ≡ map_to (lower l.d) l.r-index l.initial.ids
