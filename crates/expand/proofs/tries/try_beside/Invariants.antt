-- The loop's invariant: tries so far leave what tries leave, and the neighbours of the changes before i are tried (`Moved`, `Beside`).
use Prim.Native.Nat.{◌≤◌}
use Rattle.expand.specs.Front.{Moved, Beside}
use Rattle.expand.proofs.tries.try_beside.Given as goal

abbrev pub invariant-loop-i : goal.invariant-loop-i
invariant-loop-i l = Moved l.area l.at.changes l.at.table l.ids l.initial.ws l.hi l.strays l.ws l.t.noted l.t.strays × (l.lo ≤ l.i) × (l.i ≤ l.hi) × Beside l.area l.at.changes l.at.table l.ids l.initial.ws l.ws l.t.strays l.lo l.i
