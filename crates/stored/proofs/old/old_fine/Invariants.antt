-- The loop's invariant: the file is fine exactly if the rest from record i on is. Each turn takes a span's record from the rest.
-- At the end one byte is left, the end record.
use Prim.Native.Nat.{◌*◌, ◌%◌}
use mathlib.Core.Path.{◌≡◌}
use lib.ListN.{length, drop}
use Rattle.rules.specs.Stored.{old_fine}
use Rattle.stored.proofs.old.old_fine.Given as goal

abbrev pub invariant-loop-i : goal.invariant-loop-i
invariant-loop-i l = (length l.old % 3 ≡ 1) × (old_fine l.old ≡ old_fine (drop (3 * l.i) l.old))
