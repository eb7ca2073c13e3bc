-- `pool::lists::squeeze` meets its contract. The loop's invariant: the kept entries, and the rest squeezed, are the whole squeezed; w never passes i.
use Prim.Native.Nat.{◌≤◌}
use mathlib.Core.Path.{◌≡◌}
use mathlib.Core.List.{◌++◌}
use lib.ListN.{drop, take}
use Rattle.laws.specs.Squeeze.{squeeze}
use Rattle.pool.proofs.lists.squeeze.Given as goal

abbrev pub invariant-loop-i : goal.invariant-loop-i
invariant-loop-i l = (l.w ≤ l.i) × (take l.w l.l ++ squeeze (drop l.i l.l) ≡ squeeze l.initial.l)
