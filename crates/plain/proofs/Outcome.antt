-- The entry's ways out are the cases of its outcome, and an outcome has one answer: a verdict's number is 0 exactly where nothing is refused, and no
-- two refusals have the same number. Assumes nothing.
use Prim.Native.Nat.{ℕ, ◌≤◌, ◌<◌}
use native.Mathlib.Omega.{arith}
use mathlib.Core.Path.{◌≡◌, sym, ap, ◌∙◌}
use mathlib.Core.Bool.{true, false}
use mathlib.Core.List.{List, [], ◌∷◌}
use lib.ListN.{length, replicate}
use lib.Dec.{eqb, ltb}
use borrow.Author.Tests.{eq-eqb, ne_eqb, lt-ltb, le-ltb}
use Rattle.rules.specs.Base.{when◌then◌else◌}
use Rattle.rules.specs.Field.{Field}
use Rattle.rules.specs.Plain.{most_rooms, plain_rooms, rooms_refusal, RoomsOutcome, rooms_outcome}
use Rattle.checker.specs.Answer.{number_of, verdict_number}
use Rattle.checker.specs.declared.Refusal.{Refusal}
use Rattle.checker.specs.declared.Refusal.TheVariants.{NoIds}
use Rattle.std.specs.Prelude.{Result, Ok, Err}
use Rattle.checker.proofs.Numbers.{number_pos, number_same}
use Rattle.plain.specs.Answer.{rooms_refused_by, rooms_most_in, outcome}
use Rattle.plain.specs.Stages.{Finds}

module _ (F : Field) (border : ℕ) (ws ids : List ℕ) (v : Result Unit Refusal) (e : verdict_number v ≡ rooms_refusal F (length ids ∷ []) (length ws)) where
  pub rooms_refused : (r : Refusal) → v ≡ Err r → outcome (Err r) ws ids ≡ rooms_outcome F border ws ids
  unfolding rooms_outcome when◌then◌else◌
  rooms_refused r y =
      let n : number_of r ≡ rooms_refusal F (length ids ∷ []) (length ws) = ap verdict_number (sym y) ∙ e in
      rw (ne_eqb (rooms_refusal F (length ids ∷ []) (length ws)) 0 (λ k. omega (arith, number_pos r)), n)

  module _ (y : v ≡ Ok tt) (most : ℕ) (ids' : List ℕ) (g : Finds F border ids most ids') (ws' : List ℕ) (q : ws' ≡ replicate (length ws) 0) where
    none : eqb (rooms_refusal F (length ids ∷ []) (length ws)) 0 ≡ true
    none = eq-eqb (rooms_refusal F (length ids ∷ []) (length ws)) 0 (sym e ∙ ap verdict_number y)

    pub rooms_run_out : most_rooms < most → outcome (Err NoIds) ws' ids' ≡ rooms_outcome F border ws ids
    unfolding rooms_outcome when◌then◌else◌
    rooms_run_out h =
        let t : ltb most_rooms (plain_rooms F border).most ≡ true = lt-ltb most_rooms (plain_rooms F border).most (rw g.rooms at h) in
        rw (none, t, q, g.back h)

    pub rooms_done : most ≤ most_rooms → outcome (Ok most) ws' ids' ≡ rooms_outcome F border ws ids
    unfolding rooms_outcome when◌then◌else◌
    rooms_done h =
        let t : ltb most_rooms (plain_rooms F border).most ≡ false = le-ltb most_rooms (plain_rooms F border).most (rw g.rooms at h) in
        rw (none, t, q, g.done h, g.rooms)

answer_same : (a b : Result ℕ Refusal) → rooms_refused_by a ≡ rooms_refused_by b → rooms_most_in a ≡ rooms_most_in b → a ≡ b
answer_same (Err r) (Err s) e f = ap Err (number_same r s e)
answer_same (Err r) (Ok j) e f = absurd (omega (arith, number_pos r))
answer_same (Ok k) (Err s) e f = absurd (omega (arith, number_pos s))
answer_same (Ok k) (Ok j) e f = ap Ok f

-- two results that satisfy the promise of `build_rooms` coincide
pub one_rooms_answer : (o : RoomsOutcome) (a b : Result ℕ Refusal) (l m x y : List ℕ) → outcome a l m ≡ o → outcome b x y ≡ o → (a ≡ b) × (l ≡ x) × (m ≡ y)
one_rooms_answer o a b l m x y p q =
    let e = p ∙ sym q in (
      answer_same a b (ap (λ v. v.refused) e) (ap (λ v. v.most) e),
      ap (λ v. v.workspace) e,
      ap (λ v. v.ids) e,
    )
