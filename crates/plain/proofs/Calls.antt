-- What a call of `build_rooms` gives, read through its promise: where it refuses nothing its ids are plain rooms, and a field of at most 32,767 spans
-- is never refused 12. Assumes nothing.
use Prim.Native.Nat.{ℕ, ◌≤◌, ◌<◌}
use native.Mathlib.Omega.{arith}
use mathlib.Core.Path.{◌≡◌, sym, ap, ◌∙◌}
use mathlib.Core.Bool.{not}
use mathlib.Core.List.{List, [], ◌∷◌}
use lib.ListN.{length, get_or}
use lib.Dec.{eqb, ltb}
use borrow.Author.Tests.{eqb-true, eqb-false, ltb-true, ltb-false, not-true, not-false}
use Rattle.rules.specs.Field.{Field, Bytes, spans}
use Rattle.rules.specs.Field as field
use Rattle.rules.specs.Refusals.{too_wide, too_many, wrong_length, wrong_cells, wrong_reach, wrong_back, too_short, refusal}
use Rattle.rules.specs.Plain.{most_rooms, plain_rooms, rooms_refusal, RoomsOutcome, rooms_outcome}
use Rattle.laws.proofs.Basics.{if-ind, get_d_any}
use Rattle.field.specs.Lent.{lent}
use Rattle.std.specs.Prelude.{Result, Err}
use Rattle.plain.specs.PlainRooms.{PlainRooms}
use Rattle.plain.specs.Answer.{rooms_refused_by, outcome, GivesPlainRooms}
use Rattle.checker.specs.declared.Refusal.{Refusal}
use Rattle.checker.proofs.Numbers.{number_pos}
use Rattle.plain.proofs.Checks.{rooms_accepted}
use Rattle.plain.proofs.Meaning.{plain_rooms_lem, few_spans_few_rooms}

-- what is lent as areas is bytes
pub lent_bytes : (w h : ℕ) (is ks ar cs : List ℕ) → ((i : ℕ) → get_or ar i 0 < 256) → Bytes (lent w h is ks ar cs)
unfolding field.area_of
lent_bytes w h is ks ar cs bytes s l = rw (get_d_any ar s 256 0 l) (bytes s)

module _ (F : Field) (border : ℕ) (ws ids : List ℕ) where
  pub outcome_rooms : Bytes F → (rooms_outcome F border ws ids).refused ≡ 0 → PlainRooms F border (rooms_outcome F border ws ids).ids (rooms_outcome F border ws ids).most
  unfolding rooms_outcome
  outcome_rooms bytes =
      if-ind (λ (o : RoomsOutcome). o.refused ≡ 0 → PlainRooms F border o.ids o.most) (not (eqb (rooms_refusal F (length ids ∷ []) (length ws)) 0))
      (λ e h. absurd (eqb-false _ _ (not-true _ e) h))
      (λ e. if-ind (λ (o : RoomsOutcome). o.refused ≡ 0 → PlainRooms F border o.ids o.most) (ltb most_rooms (plain_rooms F border).most)
      (λ _ h. absurd (omega (arith, h)))
      (λ t _. plain_rooms_lem F (length ids ∷ []) (rooms_accepted F (length ids) (length ws) (eqb-true _ _ (not-false _ e))) bytes border (ltb-false _ _ t)))

  refusal_low : (lens : List ℕ) → refusal F lens ≤ 6
  unfolding refusal
  refusal_low lens =
      if-ind (λ (n : ℕ). n ≤ 6) (too_wide F) (λ _. omega arith)
      (λ _. if-ind (λ (n : ℕ). n ≤ 6) (too_many F) (λ _. omega arith)
      (λ _. if-ind (λ (n : ℕ). n ≤ 6) (wrong_length F lens) (λ _. omega arith)
      (λ _. if-ind (λ (n : ℕ). n ≤ 6) (wrong_cells F) (λ _. omega arith)
      (λ _. if-ind (λ (n : ℕ). n ≤ 6) (wrong_reach F) (λ _. omega arith)
      (λ _. if-ind (λ (n : ℕ). n ≤ 6) (wrong_back F) (λ _. omega arith) (λ _. omega arith))))))

  seven : (lens : List ℕ) (work : ℕ) → rooms_refusal F lens work ≤ 7
  unfolding rooms_refusal
  seven lens work =
      if-ind (λ (n : ℕ). n ≤ 7) (not (eqb (refusal F lens) 0)) (λ _. omega (arith, refusal_low lens))
      (λ _. if-ind (λ (n : ℕ). n ≤ 7) (too_short F work) (λ _. omega arith) (λ _. omega arith))

  -- at most 32,767 spans are never refused 12
  outcome_few : spans F ≤ most_rooms → (rooms_outcome F border ws ids).refused ≡ 12 → ⊥
  unfolding rooms_outcome
  outcome_few few =
      if-ind (λ (o : RoomsOutcome). o.refused ≡ 12 → ⊥) (not (eqb (rooms_refusal F (length ids ∷ []) (length ws)) 0))
      (λ _ h. omega (arith, seven (length ids ∷ []) (length ws), h))
      (λ _. if-ind (λ (o : RoomsOutcome). o.refused ≡ 12 → ⊥) (ltb most_rooms (plain_rooms F border).most)
      (λ t _. omega (arith, ltb-true most_rooms (plain_rooms F border).most t, few_spans_few_rooms F border few))
      (λ _ h. omega (arith, h)))

  -- and so for a call: r, ws' and ids' are what it returns and leaves
  module _ (r : Result ℕ Refusal) (ws' ids' : List ℕ) (e : outcome r ws' ids' ≡ rooms_outcome F border ws ids) where
    pub call_gives-plain_rooms : Bytes F → GivesPlainRooms F border r ids'
    call_gives-plain_rooms bytes = record {
      rooms = λ z.
          let p = outcome_rooms bytes (ap (λ (o : RoomsOutcome). o.refused) (sym e) ∙ z) in
          rw (ap (λ (o : RoomsOutcome). o.ids) e, ap (λ (o : RoomsOutcome). o.most) e) p;
    }

    pub call_few : spans F ≤ most_rooms → rooms_refused_by r ≡ 12 → ⊥
    call_few few z = outcome_few few (ap (λ (o : RoomsOutcome). o.refused) (sym e) ∙ z)

-- a refusal gives no rooms
pub refused_no_rooms : (F : Field) (border : ℕ) (r : Refusal) (l : List ℕ) → GivesPlainRooms F border (Err r) l
refused_no_rooms F border r l = record { rooms = λ z. absurd (omega (arith, number_pos r, z)) }
