-- The loop's invariant: where the reading stands (At), and that the search from record j on gives what the whole search gives (Seeks).
-- Every stretch passed has a span at least, so its number fits 32 bits.
use Prim.Native.Nat.{◌%◌}
use mathlib.Core.Path.{◌≡◌}
use lib.ListN.{length}
use Rattle.stored.proofs.NewPlaces.{At}
use Rattle.stored.proofs.Seeking.{Seeks}
use Rattle.stored.proofs.id.find_whole.Given as goal

abbrev pub invariant-loop-j : goal.invariant-loop-j
invariant-loop-j l = (length l.file % 5 ≡ 1) × At l.file l.j l.t l.spans × Seeks l.file l.span l.j l.t l.p l.spans
