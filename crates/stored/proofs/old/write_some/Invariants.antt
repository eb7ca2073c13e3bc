-- The loop's invariant: what is still to be written, written from here on, gives what the whole gives.
-- Each turn writes the record of a run that ended, if one did.
use Prim.Native.Nat.{◌≤◌}
use Rattle.rules.specs.Stored.{packed}
use Rattle.stored.proofs.Places.{runs_left}
use Rattle.stored.proofs.Fits.{Writes}
use Rattle.stored.proofs.old.write_some.Given as goal

abbrev pub invariant-loop-i : goal.invariant-loop-i
invariant-loop-i l = (l.run.long ≤ l.i) × Writes l.initial.out (packed l.old) l.at (runs_left l.old l.i l.run.id l.run.long l.run.before) l.out
