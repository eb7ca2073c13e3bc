-- The loop's invariant: the file is fine exactly if the rest from record j on is, after t runs of a stretch and so many spans (At).
-- At the end one byte is left, and no number of spans may be due.
use Prim.Native.Nat.{◌%◌}
use mathlib.Core.Path.{◌≡◌}
use lib.ListN.{length}
use Rattle.stored.proofs.NewPlaces.{At}
use Rattle.stored.proofs.runs.new_fine.Given as goal

abbrev pub invariant-loop-j : goal.invariant-loop-j
invariant-loop-j l = (length l.new % 5 ≡ 1) × At l.new l.j l.t l.spans
