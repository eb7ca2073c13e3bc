-- Plain rooms as a finished result: the entry of floor sizes never refuses their ids with 10, and each record from 1 to max_region is one of spans.
-- Every unflagged span has id 0 or a room's, and each room has a span. Assumes nothing.
use Prim.Native.Nat.{ℕ, ◌≤◌, ◌<◌}
use native.Mathlib.Omega.{arith}
use native.Mathlib.Decide.{ℕ_discrete}
use mathlib.Core.Path.{◌≡◌, refl, sym, ap, ◌∙◌}
use mathlib.Core.Bool.{not}
use mathlib.Core.List.{List, [], ◌∷◌}
use lib.ListN.{length, get_or}
use lib.Dec.{eqb}
use borrow.Author.Tests.{eqb-true, eqb-false, not-true, not-false}
use Rattle.rules.specs.Field.{Field, Bytes, area_of}
use Rattle.rules.specs.Refusals.{refusal}
use Rattle.rules.specs.Plain.{rooms_refusal, RoomsOutcome, rooms_outcome}
use Rattle.laws.proofs.Basics.{if-ind, nonzero_in}
use Rattle.extents.proofs.Finished.{Finished, Measured, finished_measured, sound_none}
use Rattle.std.specs.Prelude.{Result}
use Rattle.checker.specs.declared.Refusal.{Refusal}
use Rattle.plain.specs.PlainRooms.{PlainRooms}
use Rattle.plain.specs.Answer.{rooms_refused_by, rooms_most_in, outcome, GivesPlainRooms}
use Rattle.plain.proofs.Checks.{rooms_accepted}
use Rattle.plain.proofs.Calls.{outcome_rooms}

module _ (F : Field) (border : ℕ) where
  module _ (ids : List ℕ) (most : ℕ) (r : PlainRooms F border ids most) where
    id_used : (s : ℕ) → get_or ids s 0 < 0x8000 → get_or ids s 0 ≤ most
    id_used s l = elim (ℕ_discrete (get_or ids s 0) 0) [
      | yes z ↦ omega (arith, z)
      | no z ↦
          let h = nonzero_in ids s z in
          (r.used (area_of F s) s (λ a. z (r.bare s a)) (record { span = omega (arith, r.size); unflagged = l; area = refl })).1
    ]

    pub plain-finished : refusal F [] ≡ 0 → Finished F ids most
    plain-finished e = record {
      sound = e;
      size = r.size;
      used = id_used;
      borne = λ k p l. (omega (arith, r.few), r.borne k p l);
    }

  module _ (ws ids : List ℕ) where
    pub plain_sound : (rooms_outcome F border ws ids).refused ≡ 0 → refusal F [] ≡ 0
    unfolding rooms_outcome
    plain_sound =
        if-ind (λ (o : RoomsOutcome). o.refused ≡ 0 → refusal F [] ≡ 0) (not (eqb (rooms_refusal F (length ids ∷ []) (length ws)) 0))
        (λ e h. absurd (eqb-false _ _ (not-true _ e) h))
        (λ e _. sound_none F (length ids ∷ []) (rooms_accepted F (length ids) (length ws) (eqb-true _ _ (not-false _ e))))

    pub plain_measured : Bytes F → (rooms_outcome F border ws ids).refused ≡ 0 → Measured F (rooms_outcome F border ws ids).ids (rooms_outcome F border ws ids).most
    plain_measured bytes e = finished_measured F _ _ (plain-finished _ _ (outcome_rooms F border ws ids bytes e) (plain_sound e))

    -- and so for a call, by the two sentences of its promise: r and ids' are what it returns and leaves
    pub call_measured : (r : Result ℕ Refusal) (ws' ids' : List ℕ) → outcome r ws' ids' ≡ rooms_outcome F border ws ids → GivesPlainRooms F border r ids' → rooms_refused_by r ≡ 0
        → Measured F ids' (rooms_most_in r)
    call_measured r ws' ids' e g z =
        finished_measured F ids' (rooms_most_in r) (plain-finished ids' (rooms_most_in r) (g.rooms z) (plain_sound (sym (ap (λ (o : RoomsOutcome). o.refused) e) ∙ z)))
