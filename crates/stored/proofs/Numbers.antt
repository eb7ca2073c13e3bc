-- Answers into lists of numbers, and that two results which satisfy a promise coincide.
-- A promise is one equation, and no two answers have the same numbers. Assumes nothing.
use Prim.Native.Nat.{ℕ}
use native.Mathlib.Omega.{arith}
use mathlib.Core.Path.{◌≡◌, refl, sym, ap, ◌∙◌}
use mathlib.Core.List.{List, [], ◌∷◌}
use lib.ListN.{length}
use borrow.Author.Tests.{eq-eqb, ne_eqb}
use Rattle.std.specs.Prelude.{Result, Ok, Err}
use Rattle.rules.specs.Base.{when◌then◌else◌}
use Rattle.rules.specs.Stored.{StoredOutcome}
use Rattle.stored.specs.Answer.{stored_number, stored_refused_by, bytes_in, outcome}
use Rattle.stored.specs.Into.{IntoOutcome, leaves, stored_into}
use Rattle.stored.proofs.Ends.{number_some}
use Rattle.stored.specs.declared.StoredRefusal.{StoredRefusal}
use Rattle.stored.specs.declared.StoredRefusal.TheVariants.{Malformed, NotLongest, NoRoom, WrongNumber}

-- ---------------------------------------------------------------- numbers in a list

pub into_other : (o : StoredOutcome) (out answer : List ℕ) → (length answer ≡ 2 → ⊥) → leaves 3 out answer ≡ stored_into o out answer
unfolding stored_into when◌then◌else◌
into_other o out answer n = rw (ne_eqb (length answer) 2 n)

pub into_done : (o : StoredOutcome) (out₀ answer₀ : List ℕ) (r : Result ℕ StoredRefusal) (k : ℕ) (out answer : List ℕ) → length answer₀ ≡ 2 → outcome r out ≡ o
    → k ≡ stored_refused_by r → answer ≡ stored_refused_by r ∷ bytes_in r ∷ [] → leaves k out answer ≡ stored_into o out₀ answer₀
unfolding stored_into when◌then◌else◌
into_done o out₀ answer₀ r k out answer e p q a =
    rw (eq-eqb (length answer₀) 2 e)
    (ap (λ z. leaves z out answer) q ∙ ap (leaves (stored_refused_by r) out) a ∙ ap (λ v. leaves v.refused v.out (v.refused ∷ v.long ∷ [])) p)

-- ---------------------------------------------------------------- one answer

pub number_same : (r s : StoredRefusal) → stored_number r ≡ stored_number s → r ≡ s
number_same Malformed Malformed e = refl
number_same Malformed NotLongest e = absurd (omega arith)
number_same Malformed NoRoom e = absurd (omega arith)
number_same Malformed WrongNumber e = absurd (omega arith)
number_same NotLongest Malformed e = absurd (omega arith)
number_same NotLongest NotLongest e = refl
number_same NotLongest NoRoom e = absurd (omega arith)
number_same NotLongest WrongNumber e = absurd (omega arith)
number_same NoRoom Malformed e = absurd (omega arith)
number_same NoRoom NotLongest e = absurd (omega arith)
number_same NoRoom NoRoom e = refl
number_same NoRoom WrongNumber e = absurd (omega arith)
number_same WrongNumber Malformed e = absurd (omega arith)
number_same WrongNumber NotLongest e = absurd (omega arith)
number_same WrongNumber NoRoom e = absurd (omega arith)
number_same WrongNumber WrongNumber e = refl

answer_same : (a b : Result ℕ StoredRefusal) → stored_refused_by a ≡ stored_refused_by b → bytes_in a ≡ bytes_in b → a ≡ b
answer_same (Err r) (Err s) e f = ap Err (number_same r s e)
answer_same (Err r) (Ok k) e f = absurd (number_some r e)
answer_same (Ok k) (Err s) e f = absurd (number_some s (sym e))
answer_same (Ok k) (Ok j) e f = ap Ok f

pub one_stored_answer : (o : StoredOutcome) (a b : Result ℕ StoredRefusal) (l m : List ℕ) → outcome a l ≡ o → outcome b m ≡ o → (a ≡ b) × (l ≡ m)
one_stored_answer o a b l m p q =
    let e = p ∙ sym q in (answer_same a b (ap (λ v. v.refused) e) (ap (λ v. v.long) e), ap (λ v. v.out) e)

pub one_into_answer : (o : IntoOutcome) (k j : ℕ) (l m x y : List ℕ) → leaves k l x ≡ o → leaves j m y ≡ o → (k ≡ j) × (l ≡ m) × (x ≡ y)
one_into_answer o k j l m x y p q = let e = p ∙ sym q in (ap (λ v. v.given) e, ap (λ v. v.out) e, ap (λ v. v.answer) e)
