-- The loop's invariant: whether all fits the room is whether what is still to be written fits what is left. Each turn takes a run's spans from both.
-- At the end the end record is left.
use Prim.Native.Nat.{◌≤◌, ◌%◌}
use mathlib.Core.Path.{◌≡◌}
use lib.ListN.{length}
use Rattle.rules.specs.Stored.{unpacked}
use Rattle.stored.proofs.NewPlaces.{spans_left}
use Rattle.stored.proofs.Fits.{Fits}
use Rattle.stored.proofs.runs.unpack_fits.Given as goal

abbrev pub invariant-loop-j : goal.invariant-loop-j
invariant-loop-j l = (length l.new % 5 ≡ 1) × (l.t ≤ 64) × Fits (unpacked l.new) l.room (spans_left l.new l.j l.t) l.left
