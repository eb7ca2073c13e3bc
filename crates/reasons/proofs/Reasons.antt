-- Exactly one reason applies, and its number says what the final id is like: 0 for 1, 3 and 4, flagged for 2, a room's for 5 and 6.
-- The rule asks the six conditions in their order, and what a grown id comes to in the build (`Finals`) hangs on the same conditions.
use Prim.Native.Nat.{ℕ, suc, ◌≤◌, ◌<◌}
use native.Mathlib.Omega.{arith}
use mathlib.Core.Path.{◌≡◌, refl, sym, ap, ◌∙◌}
use mathlib.Core.Logic.{◌↔◌, ◌⊎◌, inl, inr}
use mathlib.Core.List.{List, []}
use lib.ListN.{length, get_or}
use borrow.Author.Tests.{eqb-true, eqb-false, eq-eqb, ne_eqb, leb-true, leb-false, le-leb, lt-leb}
use Rattle.rules.specs.Base.{when◌then◌else◌}
use Rattle.rules.specs.Field.{Field, Bytes, spans, none}
use Rattle.rules.specs.Net.{area_of}
use Rattle.rules.specs.Growth.{stops}
use Rattle.rules.specs.Records.{at}
use Rattle.rules.specs.Numbering.{live, number_of, rank}
use Rattle.rules.specs.Outcomes.{Sizes}
use Rattle.rules.specs.Reasons.{Reason, story, trail, mergings, reason_of, reason_number, trail_of, final_of}
use Rattle.laws.proofs.Basics.{if-ind}
use Rattle.rooms.specs.Rooms.{Plain}
use Rattle.rooms.proofs.Listing.{under}
use Rattle.reasons.specs.Traced.{last_of}
use Rattle.reasons.specs.First.{grown_id, kept_records, last_records, built, final_id, First, bare, strip, missed, small, flood, spread}
use Rattle.reasons.proofs.Trails.{trail_ends}
use Rattle.reasons.proofs.Finals.{grow, raw, final_painted, final_none, final_number, final_plain}

-- ---------------------------------------------------------------- a reason's number and a final id

abbrev Roomy : ℕ → Type 0
Roomy n = (n ≡ 5) ⊎ (n ≡ 6)

abbrev Roomless : ℕ → Type 0
Roomless n = (n ≡ 1) ⊎ ((n ≡ 3) ⊎ (n ≡ 4))

roomless : (n : ℕ) → Roomy n → n < 5 → ⊥
roomless n (inl e) h = omega arith
roomless n (inr e) h = omega arith

roomless_few : (n : ℕ) → Roomless n → (n < 5) × (n ≡ 2 → ⊥)
roomless_few n (inl e) = (omega arith, λ h. omega arith)
roomless_few n (inr (inl e)) = (omega arith, λ h. omega arith)
roomless_few n (inr (inr e)) = (omega arith, λ h. omega arith)

-- where a span of reason n goes: f is its final id
data Goes (n f : ℕ) : Type 0 where
  nowhere : Roomless n → f ≡ 0 → Goes n f
  flag : n ≡ 2 → 0x8000 ≤ f → Goes n f
  room : Roomy n → Plain f → Goes n f

goes_room : (n f : ℕ) → Goes n f → Roomy n ↔ Plain f
goes_room n f (nowhere h e) = ((λ y. absurd (roomless n y (roomless_few n h).0)), λ p. absurd (omega arith))
goes_room n f (flag h e) = ((λ y. absurd (roomless n y (omega arith))), λ p. absurd (omega arith))
goes_room n f (room h p) = ((λ _. p), λ _. h)

goes_nowhere : (n f : ℕ) → Goes n f → Roomless n ↔ (f ≡ 0)
goes_nowhere n f (nowhere h e) = ((λ _. e), λ _. h)
goes_nowhere n f (flag h e) = ((λ y. absurd ((roomless_few n y).1 h)), λ z. absurd (omega arith))
goes_nowhere n f (room h p) = ((λ y. absurd (roomless n h (roomless_few n y).0)), λ z. absurd (omega arith))

goes_flagged : (n f : ℕ) → Goes n f → (n ≡ 2) ↔ (0x8000 ≤ f)
goes_flagged n f (nowhere h e) = ((λ y. absurd ((roomless_few n h).1 y)), λ l. absurd (omega arith))
goes_flagged n f (flag h e) = ((λ _. e), λ _. h)
goes_flagged n f (room h p) = ((λ y. absurd (roomless n h (omega arith))), λ l. absurd (omega arith))

-- ---------------------------------------------------------------- which reason is the first

module _ (F : Field) (dist : List ℕ) (most : ℕ) (z : Sizes) (s : ℕ) where
  -- the reason told is the first that applies
  told-first : First F dist most z s (reason_number (reason_of F dist most z s))
  unfolding reason_of
  told-first =
      let r = grown_id F dist most z s in
      if-ind (λ (c : Reason). First F dist most z s (reason_number c)) _ (λ e. bare refl (eqb-true _ _ e))
      (λ a. if-ind (λ (c : Reason). First F dist most z s (reason_number c)) _ (λ e. strip refl (eqb-false _ _ a) (leb-true 0x8000 r e))
      (λ b. if-ind (λ (c : Reason). First F dist most z s (reason_number c)) _ (λ e. missed refl (eqb-false _ _ a) (leb-false 0x8000 r b) (eqb-true _ _ e))
      (λ d. if-ind (λ (c : Reason). First F dist most z s (reason_number c)) _
      (λ e. small refl (eqb-false _ _ a) (leb-false 0x8000 r b) (eqb-false _ _ d) (eqb-true _ _ e))
      (λ k. if-ind (λ (c : Reason). First F dist most z s (reason_number c)) _
      (λ e. flood refl (eqb-false _ _ a) (leb-false 0x8000 r b) (eqb-false _ _ d) (eqb-false _ _ k) (eqb-true _ _ e))
      (λ e. spread refl (eqb-false _ _ a) (leb-false 0x8000 r b) (eqb-false _ _ d) (eqb-false _ _ k) (eqb-false _ _ e))))))

  abbrev area : ℕ
  area = get_or F.area s 256

  abbrev r : ℕ
  r = grown_id F dist most z s

  abbrev id : ℕ
  id = (at (kept_records F dist most z) r).id

  abbrev from : ℕ
  from = (story F dist most z.border s).from

  -- and no other is
  first-told : (n : ℕ) → First F dist most z s n → n ≡ reason_number (reason_of F dist most z s)
  unfolding reason_of when◌then◌else◌
  first-told n (bare e a) = rw (eq-eqb area 0 a) e
  first-told n (strip e a b) = rw (ne_eqb area 0 a, le-leb 0x8000 r b) e
  first-told n (missed e a b d) = rw (ne_eqb area 0 a, lt-leb 0x8000 r b, eq-eqb r 0 d) e
  first-told n (small e a b d k) = rw (ne_eqb area 0 a, lt-leb 0x8000 r b, ne_eqb r 0 d, eq-eqb id 0 k) e
  first-told n (flood e a b d k f) = rw (ne_eqb area 0 a, lt-leb 0x8000 r b, ne_eqb r 0 d, ne_eqb id 0 k, eq-eqb from none f) e
  first-told n (spread e a b d k f) = rw (ne_eqb area 0 a, lt-leb 0x8000 r b, ne_eqb r 0 d, ne_eqb id 0 k, ne_eqb from none f) e

  -- "Exactly one reason applies": of the six, each where none before it applies, the one of the reason's number does, and no other
  pub one_reason : (n : ℕ) → First F dist most z s n ↔ (n ≡ reason_number (reason_of F dist most z s))
  one_reason n = (first-told n, λ e. rw e told-first)

  -- ---------------------------------------------------------------- what is told of a span with a room

  abbrev merges : List ℕ
  merges = trail (mergings z.merge (suc (length (kept_records F dist most z))) (kept_records F dist most z) []) r

  abbrev Told : Reason → Type 0
  Told c = Roomy (reason_number c) → (final_of c ≡ final_id F dist most z s) × (trail_of c ≡ merges)

  room_told : Told (reason_of F dist most z s)
  unfolding reason_of
  room_told =
      if-ind (λ (c : Reason). Told c) _ (λ _ h. absurd (roomless 1 h (omega arith)))
      (λ _. if-ind (λ (c : Reason). Told c) _ (λ _ h. absurd (roomless 2 h (omega arith)))
      (λ _. if-ind (λ (c : Reason). Told c) _ (λ _ h. absurd (roomless 3 h (omega arith)))
      (λ _. if-ind (λ (c : Reason). Told c) _ (λ _ h. absurd (roomless 4 h (omega arith)))
      (λ _. if-ind (λ (c : Reason). Told c) _ (λ _ _. (refl, refl)) (λ _ _. (refl, refl))))))

  -- its record keeps its id
  room_live : (n : ℕ) → First F dist most z s n → Roomy n → (r < 0x8000) × (id ≡ 0 → ⊥)
  room_live n (bare e a) h = absurd (roomless n h (omega arith))
  room_live n (strip e a b) h = absurd (roomless n h (omega arith))
  room_live n (missed e a b d) h = absurd (roomless n h (omega arith))
  room_live n (small e a b d k) h = absurd (roomless n h (omega arith))
  room_live n (flood e a b d k f) h = (b, k)
  room_live n (spread e a b d k f) h = (b, k)

  -- ---------------------------------------------------------------- the reason and the final id

  -- in a field whose growth nothing stops
  module _ (bytes : Bytes F) (o : stops F dist most z.border ≡ 0) (inside : s < spans F) where
    abbrev c : Reason
    c = reason_of F dist most z s

    abbrev final : ℕ
    final = final_id F dist most z s

    -- an id 0 comes to 0
    zero_none : r ≡ 0 → final ≡ 0
    zero_none e =
        final_none F dist most z bytes o s inside (omega arith)
        (ap (λ (y : ℕ). (at (kept_records F dist most z) y).id) e ∙ (raw F dist most z bytes o).outer 0 (under (grow F dist most z bytes o).some))

    bare_zero : area ≡ 0 → r ≡ 0
    unfolding area_of
    bare_zero e = (grow F dist most z bytes o).bare s e

    goes : (n : ℕ) → First F dist most z s n → Goes n final
    goes n (bare e a) = nowhere (inl e) (zero_none (bare_zero a))
    goes n (strip e a b) = flag e (rw (final_painted F dist most z bytes o s inside b) b)
    goes n (missed e a b d) = nowhere (inr (inl e)) (zero_none d)
    goes n (small e a b d k) = nowhere (inr (inr e)) (final_none F dist most z bytes o s inside b k)
    goes n (flood e a b d k f) = room (inl e) (final_plain F dist most z bytes o s inside b k)
    goes n (spread e a b d k f) = room (inr e) (final_plain F dist most z bytes o s inside b k)

    -- "reason 5 or 6 exactly if the final id is neither 0 nor flagged, and `number` is that id"
    pub has_room_reason : (((reason_number c ≡ 5) ⊎ (reason_number c ≡ 6)) ↔ Plain final) × (((reason_number c ≡ 5) ⊎ (reason_number c ≡ 6)) → final_of c ≡ final)
    has_room_reason = (goes_room (reason_number c) final (goes (reason_number c) told-first), λ h. (room_told h).0)

    -- "reasons 1, 3, 4 exactly if it is 0"
    pub no_room_reason : ((reason_number c ≡ 1) ⊎ ((reason_number c ≡ 3) ⊎ (reason_number c ≡ 4))) ↔ (final ≡ 0)
    no_room_reason = goes_nowhere (reason_number c) final (goes (reason_number c) told-first)

    -- and 2, "painted", exactly if it is flagged
    pub painted_reason : (reason_number c ≡ 2) ↔ (0x8000 ≤ final)
    painted_reason = goes_flagged (reason_number c) final (goes (reason_number c) told-first)

    -- "the trail's last id numbers as `number`": among the ids of the merged records, and then among the ids in use
    pub trail_numbers : (reason_number c ≡ 5) ⊎ (reason_number c ≡ 6)
        → final_of c ≡ rank (built F dist most z).ids (number_of (live (last_records F dist most z) []) (last_of (trail_of c)))
    trail_numbers h =
        let kept = kept_records F dist most z in
        let w = room_live (reason_number c) told-first h in
        let last : last_of (trail_of c) ≡ (at (last_records F dist most z) r).id =
        ap last_of (room_told h).1 ∙ trail_ends z.merge (suc (length kept)) kept r r ((raw F dist most z bytes o).own r w.1) in
        (room_told h).0 ∙ final_number F dist most z bytes o s inside w.0 w.1
        ∙ ap (λ (k : ℕ). rank (built F dist most z).ids (number_of (live (last_records F dist most z) []) k)) (sym last)
