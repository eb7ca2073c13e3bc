-- "From a finished result": what the region entry and plain rooms give where they refuse nothing is never refused 10, and each record from 1 to max_region is one of
-- spans. It holds because unflagged ids are at most max_region, and each id from 1 to it is in use. Assumes nothing.
use Prim.Native.Nat.{ℕ, suc, ◌≤◌, ◌<◌}
use native.Mathlib.Omega.{arith}
use native.Mathlib.Decide.{ℕ_discrete, dec_lt}
use mathlib.Core.Path.{◌≡◌, refl, sym, ap, ◌∙◌}
use mathlib.Core.Bool.{Bool, true, false, not}
use mathlib.Core.List.{List, [], ◌∷◌}
use lib.ListN.{length, get_or}
use lib.Dec.{eqb}
use borrow.Author.Tests.{eqb-true, eqb-false, eq-eqb, lt-leb, le-leb, le-ltb, not-true, not-false}
use Rattle.rules.specs.Base.{◌and◌, ◌or◌, when◌then◌else◌, any, every}
use Rattle.rules.specs.Field.{Field, Bytes, spans}
use Rattle.rules.specs.Refusals.{wrong_length, refusal, region_refusal}
use Rattle.rules.specs.Numbering.{dense}
use Rattle.rules.specs.Outcomes.{Sizes, RegionOutcome, region_outcome}
use Rattle.rules.specs.Sizes.{wrong_scale, too_great, wrong_ids, measure_refusal, measure_outcome}
use Rattle.laws.proofs.Basics.{both, and_both, if-ind}
use Rattle.laws.proofs.Cells.{passed}
use Rattle.rooms.specs.Rooms.{Rooms}
use Rattle.rooms.specs.Dense.{first_in, past_in}
use Rattle.rooms.proofs.Entry.{not_refused_gives_rooms}
use Rattle.extents.proofs.Room.{refused_is, RoomIs, room_is}

-- a field that is sound, and ids of its spans: the unflagged ones are at most max_region, and each number from 1 to it is unflagged and a span's
pub record Finished (F : Field) (ids : List ℕ) (most : ℕ) : Type 0 where
  pub sound : refusal F [] ≡ 0
  pub size : length ids ≡ spans F
  pub used : (s : ℕ) → get_or ids s 0 < 0x8000 → get_or ids s 0 ≤ most
  pub borne : (k : ℕ) → 0 < k → k ≤ most → (k < 0x8000) × ((s : ℕ) × (s < spans F) × (get_or ids s 0 ≡ k))

-- what it means for the entry of floor sizes: 10 is never given, and of 1 to max_region no record is without spans
pub record Measured (F : Field) (ids : List ℕ) (most : ℕ) : Type 0 where
  pub listed : wrong_ids (spans F) ids most ≡ false
  pub refused : (k id : ℕ) → (measure_outcome F ids most k id).refused ≡ (when wrong_scale k then 9 else 0)
  pub some : (k id : ℕ) → wrong_scale k ≡ false → 0 < id → id ≤ most → 0 < (measure_outcome F ids most k id).room.count

-- ---------------------------------------------------------------- never 10

not_great : (most r : ℕ) → (r < 0x8000 → r ≤ most) → too_great most r ≡ false
unfolding too_great ◌and◌
not_great most r h = elim (dec_lt r 0x8000) [
  | yes l ↦ rw (lt-leb 0x8000 r l) (le-ltb most r (h l))
  | no l ↦ let g : 0x8000 ≤ r = omega (arith, l) in rw (le-leb 0x8000 r g)
]

none_any : (p : ℕ → Bool) (l : List ℕ) → ((i : ℕ) → p (get_or l i 0) ≡ false) → any p l ≡ false
unfolding any ◌or◌
none_any p [] h = refl
none_any p (x ∷ l) h = rw (h 0) (none_any p l (λ i. h (suc i)))

module _ (F : Field) (ids : List ℕ) (most : ℕ) (f : Finished F ids most) where
  pub finished-listed : wrong_ids (spans F) ids most ≡ false
  unfolding wrong_ids ◌or◌
  finished-listed = rw (eq-eqb (length ids) (spans F) f.size) (none_any (too_great most) ids (λ i. not_great most (get_or ids i 0) (f.used i)))

  -- only the scale can be refused
  pub finished_refused : (k id : ℕ) → (measure_outcome F ids most k id).refused ≡ (when wrong_scale k then 9 else 0)
  unfolding measure_refusal when◌then◌else◌
  finished_refused k id = refused_is F ids most k id ∙ rw (eq-eqb (refusal F []) 0 f.sound, finished-listed)

  pub finished_never_10 : (k id : ℕ) → (measure_outcome F ids most k id).refused ≡ 10 → ⊥
  finished_never_10 k id e = not_10 (wrong_scale k) (sym (finished_refused k id) ∙ e)
    where
      not_10 : (b : Bool) → ◌≡◌ {A = ℕ} (when b then 9 else 0) 10 → ⊥
      not_10 b = if-ind (λ (n : ℕ). n ≡ 10 → ⊥) b (λ _ h. omega (arith, h)) (λ _ h. omega (arith, h))

  -- each record from 1 to max_region: what the request says of it, a count above 0 included
  pub finished_rooms : (k id : ℕ) → wrong_scale k ≡ false → 0 < id → id ≤ most → RoomIs F ids k id (measure_outcome F ids most k id).room
  unfolding when◌then◌else◌
  finished_rooms k id g p l =
      let z : (measure_outcome F ids most k id).refused ≡ 0 = finished_refused k id ∙ rw g in
      let b = f.borne id p l in
      room_is F ids most k id z p b.0 b.1.0 (b.1.1, b.1.2)

  pub finished_measured : Measured F ids most
  finished_measured = record { listed = finished-listed; refused = finished_refused; some = λ k id g p l. (finished_rooms k id g p l).some }

-- ---------------------------------------------------------------- the region entry

-- an entry's own lists do not make the field unsound
lengths_none : (F : Field) (lens : List ℕ) → wrong_length F lens ≡ false → wrong_length F [] ≡ false
unfolding wrong_length every
lengths_none F lens e = ap not (and_both _ true (both _ _ (not-false _ e)).0 refl)

pub sound_none : (F : Field) (lens : List ℕ) → refusal F lens ≡ 0 → refusal F [] ≡ 0
unfolding refusal when◌then◌else◌
sound_none F lens e =
    let v = passed F lens e in
    rw (v.wide, v.many, lengths_none F lens v.lengths, v.cells, v.reach, v.back)

-- the rooms of demand 3, in the dense form
pub rooms_finished : (F : Field) (ids : List ℕ) (most : ℕ) → Rooms F 1 ids (suc most) → refusal F [] ≡ 0 → Finished F ids most
rooms_finished F ids most r e = record {
  sound = e;
  size = r.size;
  used = λ s l. elim (ℕ_discrete (get_or ids s 0) 0) [ yes y ↦ omega (arith, y) | no n ↦ omega (arith, (r.used (get_or ids s 0) s (omega (arith, n), l) refl).1) ];
  borne = λ k p l. let b = r.borne k p (omega arith) in (b.0.1, b.1);
}

module _ (F : Field) (dist : List ℕ) (most : ℕ) (z : Sizes) (work ids : List ℕ) where
  abbrev lens : List ℕ
  lens = length dist ∷ length ids ∷ []

  seven_eight : region_refusal F lens (length work) dist most ≡ 0 → refusal F lens ≡ 0
  unfolding region_refusal
  seven_eight =
      if-ind (λ (r : ℕ). r ≡ 0 → refusal F lens ≡ 0) (not (eqb (refusal F lens) 0)) (λ _ h. h) (λ e _. eqb-true _ _ (not-false _ e))

  pub not_refused_sound : (region_outcome dense F dist most z work ids).refused ≡ 0 → refusal F [] ≡ 0
  unfolding region_outcome
  not_refused_sound =
      if-ind (λ (o : RegionOutcome). o.refused ≡ 0 → refusal F [] ≡ 0) (not (eqb (region_refusal F lens (length work) dist most) 0))
      (λ e h. absurd (eqb-false _ _ (not-true _ e) h))
      (λ e _. sound_none F lens (seven_eight (eqb-true _ _ (not-false _ e))))

  -- of the dense form, by which A1's records go since A4
  pub regions-finished : Bytes F → (region_outcome dense F dist most z work ids).refused ≡ 0
      → Finished F (region_outcome dense F dist most z work ids).ids (region_outcome dense F dist most z work ids).most
  unfolding first_in past_in
  regions-finished bytes e = rooms_finished F _ _ (not_refused_gives_rooms dense F dist most z work ids bytes e) (not_refused_sound e)

  -- "A finished result" of the region entry is never refused 10
  pub regions_measured : Bytes F → (region_outcome dense F dist most z work ids).refused ≡ 0
      → Measured F (region_outcome dense F dist most z work ids).ids (region_outcome dense F dist most z work ids).most
  regions_measured bytes e = finished_measured F _ _ (regions-finished bytes e)
