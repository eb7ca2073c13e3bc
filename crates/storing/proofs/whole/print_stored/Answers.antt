use Prim.Native.Nat.{ℕ, ◌≤◌}
use mathlib.Core.List.{List}
use lib.ListN.{length}
use Rattle.rules.specs.Stored.{old_bytes}
use Rattle.stored.proofs.OldForm.{old_length}
use native.Mathlib.Omega.{arith}
use borrow.Author.Rules.{rules}
use Rattle.storing.proofs.whole.print_stored.Goals as goal

made-room : (l out : List ℕ) → length l ≤ 200 → 601 ≤ length out → length (old_bytes l) ≤ length out
made-room l out h k = omega (arith, old_length l)

pub old_form-end-requires : goal.old_form-end-requires
old_form-end-requires g c = search (rules, made-room)
