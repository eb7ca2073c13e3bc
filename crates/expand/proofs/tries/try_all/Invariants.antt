-- The loop's invariant: tries so far leave what tries leave, and the entries before j are tried (`Moved`, `Entered`).
use Prim.Native.Nat.{◌≤◌}
use mathlib.Core.Bool.{false}
use Rattle.expand.specs.Front.{Moved, Entered}
use Rattle.expand.proofs.tries.try_all.Given as goal

abbrev pub invariant-loop-j : goal.invariant-loop-j
invariant-loop-j l = Moved l.area l.at.changes l.at.table l.ids l.initial.ws 0 false l.ws l.t.noted l.t.strays × (l.j ≤ l.fill) × Entered l.area l.from l.at.changes l.at.table l.ids l.initial.ws l.ws l.t.strays l.j
