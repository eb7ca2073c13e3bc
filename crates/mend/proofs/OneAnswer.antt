-- Two results that satisfy the promise of `mend` coincide: the promise is one equation,
-- a refusal's number is neither 0 nor 27, and no two refusals have the same. Assumes nothing.
use Prim.Native.Nat.{ℕ}
use native.Mathlib.Omega.{arith}
use mathlib.Core.Path.{◌≡◌, refl, sym, ap, ◌∙◌}
use mathlib.Core.List.{List}
use Rattle.rules.specs.Mend.{MendOutcome}
use Rattle.checker.specs.declared.Refusal.{Refusal}
use Rattle.checker.proofs.Numbers.{number_pos, number_low, number_same}
use Rattle.mend.specs.Answer.{mend_refused_by, changes_in, outcome}
use Rattle.std.specs.Prelude.{Result, Ok, Err}
use Rattle.mend.specs.declared.MendRefusal.{MendRefusal}
use Rattle.mend.specs.declared.MendRefusal.TheVariants.{Field, NoRoom}

answer_same : (a b : Result ℕ MendRefusal) → mend_refused_by a ≡ mend_refused_by b → changes_in a ≡ changes_in b → a ≡ b
answer_same (Err (Field r)) (Err (Field s)) e f = ap (λ (x : Refusal). Err (Field x)) (number_same r s e)
answer_same (Err (Field r)) (Err NoRoom) e f = absurd (omega (arith, number_low r))
answer_same (Err (Field r)) (Ok k) e f = absurd (omega (arith, number_pos r))
answer_same (Err NoRoom) (Err (Field s)) e f = absurd (omega (arith, number_low s))
answer_same (Err NoRoom) (Err NoRoom) e f = refl
answer_same (Err NoRoom) (Ok k) e f = absurd (omega arith)
answer_same (Ok k) (Err (Field s)) e f = absurd (omega (arith, number_pos s))
answer_same (Ok k) (Err NoRoom) e f = absurd (omega arith)
answer_same (Ok k) (Ok j) e f = ap Ok f

pub one_mend_answer : (o : MendOutcome) (a b : Result ℕ MendRefusal) (l m x y : List ℕ) → outcome a l m ≡ o → outcome b x y ≡ o → (a ≡ b) × (l ≡ x) × (m ≡ y)
one_mend_answer o a b l m x y p q =
    let e = p ∙ sym q in (
      answer_same a b (ap (λ v. v.refused) e) (ap (λ v. v.count) e),
      ap (λ v. v.con) e,
      ap (λ v. v.changes) e,
    )
