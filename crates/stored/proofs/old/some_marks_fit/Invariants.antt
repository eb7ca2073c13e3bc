-- The loop's invariant: all numbers fit exactly if those still to be written do. The run so far is no longer than the spans passed, and t is below 64.
-- Each turn tests the number after a run that ended.
use Prim.Native.Nat.{◌≤◌}
use mathlib.Core.Path.{◌≡◌}
use Rattle.rules.specs.Stored.{marks_fit, runs_of, old_ids}
use Rattle.stored.proofs.Places.{fits_left}
use Rattle.stored.proofs.old.some_marks_fit.Given as goal

abbrev pub invariant-loop-i : goal.invariant-loop-i
invariant-loop-i l = (l.run.long ≤ l.i) × (marks_fit 0 0 (runs_of (old_ids l.old)) ≡ fits_left l.old l.i l.run.id l.run.long l.run.before)
