-- `pool::lists::swap` meets its contract. The loop's invariant: the entries so far are swapped, the others as they were.
use mathlib.Core.Path.{◌≡◌}
use mathlib.Core.List.{◌++◌, map}
use lib.ListN.{take, drop}
use Rattle.pool.specs.Lists.{swap_one}
use Rattle.pool.proofs.lists.swap.Given as goal

abbrev pub invariant-loop-x : goal.invariant-loop-x
invariant-loop-x l = l.l ≡ map (swap_one l.old l.new) (take l.x-index l.initial.l) ++ drop l.x-index l.initial.l
