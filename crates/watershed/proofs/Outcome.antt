-- The distance entry's two ways out are the two cases of its outcome, and an outcome has one answer:
-- a refusal's number is never 0, and no two refusals have the same.
use Prim.Native.Nat.{ℕ}
use native.Mathlib.Omega.{arith}
use mathlib.Core.Path.{◌≡◌, sym, ap, ◌∙◌}
use mathlib.Core.Bool.{true, false}
use mathlib.Core.List.{List, [], ◌∷◌}
use lib.ListN.{length}
use lib.Dec.{eqb}
use borrow.Author.Tests.{eq-eqb, ne_eqb}
use Rattle.rules.specs.Base.{when◌then◌else◌}
use Rattle.rules.specs.Field.{Field}
use Rattle.rules.specs.Refusals.{refusal}
use Rattle.rules.specs.Distance.{raw, greatest, blur}
use Rattle.rules.specs.Outcomes.{DistanceOutcome, distance_outcome}
use Rattle.laws.proofs.Lengths.{raw-length}
use Rattle.field.specs.Lent.{Reached, lent}
use Rattle.checker.specs.Answer.{number_of, verdict_number}
use Rattle.checker.specs.declared.Refusal.{Refusal}
use Rattle.std.specs.Prelude.{Result, Ok, Err}
use Rattle.checker.proofs.Numbers.{number_pos, number_same}
use Rattle.field.proofs.Passed.{reached_of, own_lengths}
use Rattle.watershed.specs.Answer.{refused_by, most_in, Answers}

-- ---------------------------------------------------------------- the two ways out

module _ (F : Field) (l m : List ℕ) (v : Result Unit Refusal) (e : verdict_number v ≡ refusal F (length l ∷ length m ∷ [])) where
  pub refused_out : (r : Refusal) → v ≡ Err r → Answers (distance_outcome F l m) (Err r) l m
  unfolding distance_outcome when◌then◌else◌
  refused_out r z =
      let n : number_of r ≡ refusal F (length l ∷ length m ∷ []) = ap verdict_number (sym z) ∙ e in
      let f : eqb (refusal F (length l ∷ length m ∷ [])) 0 ≡ false = ne_eqb (refusal F (length l ∷ length m ∷ [])) 0 (λ k. omega (arith, number_pos r)) in
      record { refused = rw f n; most = rw f; raw = rw f; blurred = rw f }

  module _ (z : v ≡ Ok tt) where
    none : refusal F (length l ∷ length m ∷ []) ≡ 0
    none = sym e ∙ ap verdict_number z

    pub sound_reached : Reached F
    sound_reached = reached_of F (length l ∷ length m ∷ []) none

    pub done_out : (x y : List ℕ) (k : ℕ) → x ≡ raw F → y ≡ blur F x → k ≡ greatest x → Answers (distance_outcome F l m) (Ok k) x y
    unfolding distance_outcome when◌then◌else◌
    done_out x y k p q g =
        let f : eqb (refusal F (length l ∷ length m ∷ [])) 0 ≡ true = eq-eqb (refusal F (length l ∷ length m ∷ [])) 0 none in
        record { refused = rw f; most = rw (f, ← p) g; raw = rw f p; blurred = rw (f, ← p) q }

-- the lengths that a sound field has them
module _ (w h : ℕ) (is ks ar cs l m : List ℕ) (v : Result Unit Refusal) (e : verdict_number v ≡ refusal (lent w h is ks ar cs) (length l ∷ length m ∷ [])) (z : v ≡ Ok tt) where
  pub sound_raw : length l ≡ length ar
  sound_raw = (own_lengths (lent w h is ks ar cs) (length l) (length m) (sym e ∙ ap verdict_number z)).0

  pub sound_blurred : length m ≡ length ar
  sound_blurred = (own_lengths (lent w h is ks ar cs) (length l) (length m) (sym e ∙ ap verdict_number z)).1

pub raw-sized : (w h : ℕ) (is ks ar cs x : List ℕ) → x ≡ raw (lent w h is ks ar cs) → length x ≡ length ar
raw-sized w h is ks ar cs x p = rw p (raw-length (lent w h is ks ar cs))

-- ---------------------------------------------------------------- one answer

answer_same : (a b : Result ℕ Refusal) → refused_by a ≡ refused_by b → most_in a ≡ most_in b → a ≡ b
answer_same (Err r) (Err s) e f = ap Err (number_same r s e)
answer_same (Err r) (Ok k) e f = absurd (omega (arith, number_pos r))
answer_same (Ok k) (Err s) e f = absurd (omega (arith, number_pos s))
answer_same (Ok k) (Ok j) e f = ap Ok f

-- two results that satisfy the promise of `build_distance_field` coincide
pub one_answer : (o : DistanceOutcome) (a b : Result ℕ Refusal) (l m x y : List ℕ) → Answers o a l m → Answers o b x y → (a ≡ b) × (l ≡ x) × (m ≡ y)
one_answer o a b l m x y p q =
    (answer_same a b (p.refused ∙ sym q.refused) (p.most ∙ sym q.most), p.raw ∙ sym q.raw, p.blurred ∙ sym q.blurred)
