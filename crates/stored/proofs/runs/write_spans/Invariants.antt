-- The loop's invariant: what is still to be written, written from here on, gives what the whole gives.
-- Each turn writes the spans of a run.
use Prim.Native.Nat.{◌≤◌, ◌%◌}
use mathlib.Core.Path.{◌≡◌}
use lib.ListN.{length}
use Rattle.rules.specs.Stored.{unpacked}
use Rattle.stored.proofs.NewPlaces.{spans_left}
use Rattle.stored.proofs.Fits.{Writes}
use Rattle.stored.proofs.runs.write_spans.Given as goal

abbrev pub invariant-loop-j : goal.invariant-loop-j
invariant-loop-j l = (length l.new % 5 ≡ 1) × (l.t ≤ 64) × Writes l.initial.out (unpacked l.new) l.at (spans_left l.new l.j l.t) l.out
