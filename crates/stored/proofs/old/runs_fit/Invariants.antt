-- The loop's invariant: whether all fits the room is whether what is still to be written fits what is left. Each turn takes a record's bytes from both.
-- At the end the last run and the end record are left.
use Prim.Native.Nat.{◌≤◌}
use Rattle.rules.specs.Stored.{packed}
use Rattle.stored.proofs.Places.{runs_left}
use Rattle.stored.proofs.Fits.{Fits}
use Rattle.stored.proofs.old.runs_fit.Given as goal

abbrev pub invariant-loop-i : goal.invariant-loop-i
invariant-loop-i l = (l.run.long ≤ l.i) × Fits (packed l.old) l.room (runs_left l.old l.i l.run.id l.run.long l.run.before) l.left
