-- What the readers of one span's id need at their calls, as the code has it, by cases on what is due; and that two results which satisfy a promise coincide.
-- Assumes nothing.
use Prim.Native.Nat.{ℕ, ◌+◌}
use native.Mathlib.Omega.{arith}
use mathlib.Core.Path.{◌≡◌, refl, sym, ap, ◌∙◌}
use mathlib.Core.Bool.{not}
use mathlib.Core.List.{List}
use lib.ListN.{length}
use lib.Dec.{eqb, ltb}
use borrow.Author.Tests.{eq-eqb, ne_eqb}
use Rattle.rules.specs.Base.{when◌then◌else◌}
use Rattle.rules.specs.File.{word}
use Rattle.rules.specs.Stored.{IdOutcome, read_refusal, id_at, id_whole}
use Rattle.forms.proofs.Same.{same_answer}
use Rattle.stored.specs.Answer.{stored_number}
use Rattle.stored.specs.Into.{id_numbers, IdIntoOutcome, leaves_id, id_into}
use Rattle.stored.specs.declared.StoredRefusal.{StoredRefusal}
use Rattle.stored.specs.declared.StoredRefusal.TheVariants.{Malformed, NotLongest, NoRoom, WrongNumber}
use Rattle.stored.specs.declared.id.IdAnswer.{IdAnswer}
use Rattle.std.specs.Prelude.{Result, Ok, Err, Option, Some, None}
use Rattle.stored.specs.Ids.{id_outcome, found_outcome, holds, stretch_after}
use Rattle.stored.proofs.Ends.{number_some}
use Rattle.stored.proofs.Numbers.{number_same}

pub holds-none : (l : List ℕ) (i t s span : ℕ) → t ≡ 64 → not (eqb t 64) ≡ holds l i t s span
unfolding holds when◌then◌else◌
holds-none l i t s span e = rw (eq-eqb t 64 e)

pub holds_test : (l : List ℕ) (i t s span v : ℕ) → (t ≡ 64 → ⊥) → v ≡ word l (i + 3) → ltb span (s + v) ≡ holds l i t s span
unfolding holds when◌then◌else◌
holds_test l i t s span v n e = rw (ne_eqb t 64 n) (ap (λ z. ltb span (s + z)) e)

pub stretch_more : (t p : ℕ) → t ≡ 64 → p + 1 ≡ stretch_after t p
unfolding stretch_after when◌then◌else◌
stretch_more t p e = rw (eq-eqb t 64 e) (omega arith)

pub stretch_same : (t p : ℕ) → (t ≡ 64 → ⊥) → p ≡ stretch_after t p
unfolding stretch_after when◌then◌else◌
stretch_same t p n = rw (ne_eqb t 64 n)

-- ---------------------------------------------------------------- numbers in a list

pub id_other : (o : IdOutcome) (answer : List ℕ) → (length answer ≡ 3 → ⊥) → leaves_id 3 answer ≡ id_into o answer
unfolding id_into when◌then◌else◌
id_other o answer n = rw (ne_eqb (length answer) 3 n)

pub id_done : (o : IdOutcome) (answer₀ : List ℕ) (r : IdAnswer) (k : ℕ) (answer : List ℕ) → length answer₀ ≡ 3 → id_outcome r ≡ o → k ≡ (id_outcome r).refused
    → answer ≡ id_numbers (id_outcome r) → leaves_id k answer ≡ id_into o answer₀
unfolding id_into when◌then◌else◌
id_done o answer₀ r k answer e p q a =
    rw (eq-eqb (length answer₀) 3 e) (ap (λ z. leaves_id z answer) q ∙ ap (leaves_id (id_outcome r).refused) a ∙ ap (λ v. leaves_id v.refused (id_numbers v)) p)

-- two results that satisfy the promise coincide
pub one_id_into : (o : IdIntoOutcome) (k j : ℕ) (l m : List ℕ) → leaves_id k l ≡ o → leaves_id j m ≡ o → (k ≡ j) × (l ≡ m)
one_id_into o k j l m p q = let e = p ∙ sym q in (ap (λ v. v.given) e, ap (λ v. v.answer) e)

-- ---------------------------------------------------------------- one answer

-- no refusal of a file has 26
not_beyond : (r : StoredRefusal) → stored_number r ≡ 26 → ⊥
not_beyond Malformed e = omega arith
not_beyond NotLongest e = omega arith
not_beyond NoRoom e = omega arith
not_beyond WrongNumber e = omega arith

found_same : (a b : Result (Option ℕ) StoredRefusal) (p q : ℕ) → found_outcome a p ≡ found_outcome b q → a ≡ b
found_same (Err r) (Err s) p q e = ap Err (number_same r s (ap (λ v. v.refused) e))
found_same (Err r) (Ok None) p q e = absurd (not_beyond r (ap (λ v. v.refused) e))
found_same (Err r) (Ok (Some id)) p q e = absurd (number_some r (ap (λ v. v.refused) e))
found_same (Ok None) (Err s) p q e = absurd (not_beyond s (sym (ap (λ v. v.refused) e)))
found_same (Ok None) (Ok None) p q e = refl
found_same (Ok None) (Ok (Some id)) p q e = let f : ◌≡◌ {A = ℕ} 26 0 = ap (λ v. v.refused) e in absurd (omega arith)
found_same (Ok (Some id)) (Err s) p q e = absurd (number_some s (sym (ap (λ v. v.refused) e)))
found_same (Ok (Some id)) (Ok None) p q e = let f : ◌≡◌ {A = ℕ} 0 26 = ap (λ v. v.refused) e in absurd (omega arith)
found_same (Ok (Some id)) (Ok (Some j)) p q e = ap (λ x. Ok (Some x)) (ap (λ v. v.id) e)

stretch_is : (a : Result (Option ℕ) StoredRefusal) (p : ℕ) → (found_outcome a p).stretch ≡ p
stretch_is (Err r) p = refl
stretch_is (Ok None) p = refl
stretch_is (Ok (Some id)) p = refl

answer_same : (a b : IdAnswer) → id_outcome a ≡ id_outcome b → a ≡ b
answer_same a b e =
    let f = found_same a.id b.id a.stretch b.stretch e in
    let g : a.stretch ≡ b.stretch = sym (stretch_is a.id a.stretch) ∙ ap (λ v. v.stretch) e ∙ stretch_is b.id b.stretch in
    ap (λ x. record { id = x; stretch = a.stretch }) f ∙ ap (λ p. record { id = b.id; stretch = p }) g

-- two results of `id_at`, or of `id_at_whole`, coincide: o is the outcome that the promise names
pub one_id_answer : (o : IdOutcome) (a b : IdAnswer) → id_outcome a ≡ o → id_outcome b ≡ o → a ≡ b
one_id_answer o a b p q = answer_same a b (p ∙ sym q)

-- and a result of `id_at` is that of `id_at_whole`, of a file that this accepts
pub one_id_of_both : (file : List ℕ) (span : ℕ) (a b : IdAnswer) → read_refusal file ≡ 0 → id_outcome a ≡ id_at file span → id_outcome b ≡ id_whole file span → a ≡ b
one_id_of_both file span a b e p q = answer_same a b (p ∙ same_answer file span e ∙ sym q)
