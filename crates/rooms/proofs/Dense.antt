-- The dense form of the numbers. In the compared form the ids in use are exactly first to max_region - 1 (`Rooms`), so the rank of an id in use is
-- the id less first - 1: the dense form is the compared one, lowered; and it has demand 3 in its new reading. Assumes nothing.
use Prim.Native.Nat.{ℕ, zero, suc, ◌+◌, ◌-◌, ◌≤◌, ◌<◌}
use native.Mathlib.Omega.{arith}
use native.Mathlib.Decide.{ℕ_discrete, dec_lt}
use mathlib.Core.Path.{◌≡◌, refl, sym, ap, ◌∙◌}
use mathlib.Core.Bool.{Bool, true, false, true≢false}
use mathlib.Core.List.{List, [], ◌∷◌, map}
use lib.ListN.{length, get_or, length-map, get_or-map}
use lib.Dec.{eqb}
use borrow.Author.Tests.{eq-eqb, leb-true, leb-false}
use Rattle.rules.specs.Base.{when◌then◌else◌, any}
use Rattle.rules.specs.Field.{Field}
use Rattle.rules.specs.Growth.{flagged, plain, first_id}
use Rattle.rules.specs.Records.{has}
use Rattle.rules.specs.Merge.{place}
use Rattle.rules.specs.Numbering.{Form, dense, compared, Regions, in_use, rank, condensed, formed}
use Rattle.laws.proofs.Basics.{both, and_both, if-ind, or_left, or_right}
use Rattle.laws.proofs.Plain.{plain_yes}
use Rattle.rooms.specs.Rooms.{Plain, Bears, Joined, stay, goes, Rooms}
use Rattle.rooms.specs.Dense.{lower, lowered, shifted, first_in, past_in}
use Rattle.rooms.proofs.Joins.{plain_true}
use Rattle.rooms.proofs.Numbering.{place_in}

-- ---------------------------------------------------------------- the renaming rises

-- one more only where the next is in use
rank_step : (ids : List ℕ) (k : ℕ) → rank ids k ≤ rank ids (suc k)
unfolding rank
rank_step ids k = if-ind (λ (n : ℕ). rank ids k ≤ n) (in_use ids (suc k)) (λ _. omega arith) (λ _. omega arith)

rank_le : (ids : List ℕ) (j d : ℕ) → rank ids j ≤ rank ids (d + j)
rank_le ids j zero = let e : 0 + j ≡ j = omega arith in rw e (omega arith)
rank_le ids j (suc d) =
    let e : suc d + j ≡ suc (d + j) = omega arith in
    rw e (omega (arith, rank_le ids j d, rank_step ids (d + j)))

-- "the two forms' ids differ by one strictly rising renaming of the ids in use"
pub rank_rises : (ids : List ℕ) (j k : ℕ) → j < k → in_use ids k ≡ true → rank ids j < rank ids k
unfolding rank when◌then◌else◌
rank_rises ids j zero h u = absurd (omega arith)
rank_rises ids j (suc k) h u =
    let e : (k - j) + j ≡ k = omega arith in
    let l : rank ids j ≤ rank ids k = rw e at (rank_le ids j (k - j)) in
    rw u (omega arith)

-- ---------------------------------------------------------------- ids in use

has_borne : (ids : List ℕ) (k s : ℕ) → s < length ids → get_or ids s 0 ≡ k → has ids k ≡ true
unfolding any
has_borne [] k s h e = absurd (omega arith)
has_borne (x ∷ ids) k zero h e = or_left (eqb k x) (any (eqb k) ids) (eq-eqb k x (sym e))
has_borne (x ∷ ids) k (suc s) h e = or_right (eqb k x) (any (eqb k) ids) (has_borne ids k s (omega arith) e)

else_same : (b : Bool) (x y y' : ℕ) → (b ≡ false → y ≡ y') → (when b then x else y) ≡ (when b then x else y')
unfolding when◌then◌else◌
else_same true x y y' h = refl
else_same false x y y' h = h refl

rank_zero : (ids : List ℕ) → rank ids 0 ≡ 0
unfolding rank
rank_zero ids = refl

map_on : (f g : ℕ → ℕ) (l : List ℕ) → ((s : ℕ) → s < length l → f (get_or l s 0) ≡ g (get_or l s 0)) → map f l ≡ map g l
map_on f g [] h = refl
map_on f g (x ∷ l) h =
    ap (λ (y : ℕ). y ∷ map f l) (h 0 (omega arith)) ∙ ap (λ (m : List ℕ). g x ∷ m) (map_on f g l (λ s a. h (suc s) (omega arith)))

-- a lowered id, and where it comes from
lower-back : (d r k : ℕ) → Plain k → lower d r ≡ k → (r ≡ k + d) × Plain (k + d)
unfolding lower
lower-back d r k p =
    if-ind (λ (n : ℕ). n ≡ k → (r ≡ k + d) × Plain (k + d)) (flagged r)
    (λ e q. let h : 0x8000 ≤ r = leb-true 0x8000 r e in absurd (omega (arith, p.1)))
    (λ e q. let h = leb-false 0x8000 r e in (omega (arith, p.0), (omega (arith, p.0), omega (arith, p.0))))

lower_forth : (d k : ℕ) → Plain (k + d) → lower d (k + d) ≡ k
unfolding lower
lower_forth d k p =
    if-ind (λ (n : ℕ). n ≡ k) (flagged (k + d)) (λ e. let h : 0x8000 ≤ k + d = leb-true 0x8000 (k + d) e in absurd (omega (arith, p.1))) (λ _. omega arith)

lower_zero : (d : ℕ) → lower d 0 ≡ 0
unfolding lower when◌then◌else◌
lower_zero d = omega arith

pub lower-at : (d : ℕ) (ids : List ℕ) (s : ℕ) → get_or (map (lower d) ids) s 0 ≡ lower d (get_or ids s 0)
lower-at d ids s = ap (get_or (map (lower d) ids) s) (sym (lower_zero d)) ∙ get_or-map (lower d) ids s 0

joined_as : (F : Field) {C D : ℕ → Type 0} → ((u : ℕ) → C u → D u) → {s t : ℕ} → Joined F C s t → Joined F D s t
joined_as F f (stay c) = stay (f _ c)
joined_as F f (goes e l c j) = goes e l (f _ c) (joined_as F f j)

module _ (F : Field) (first : ℕ) (ids : List ℕ) (past : ℕ) (R : Rooms F first ids past) where
  -- in use exactly from first to past - 1
  used_yes : (k : ℕ) → first ≤ k → k < past → in_use ids k ≡ true
  unfolding in_use
  used_yes k a b =
      let w = R.borne k a b in
      let p : plain k ≡ true = plain_yes k (λ z. omega (arith, w.0.0)) w.0.1 in
      let h : has ids k ≡ true = has_borne ids k w.1.0 (omega (arith, w.1.1, R.size)) w.1.2 in
      and_both (plain k) (has ids k) p h

  used_in : (k : ℕ) → in_use ids k ≡ true → (first ≤ k) × (k < past)
  unfolding in_use
  used_in k e =
      let b = both (plain k) (has ids k) e in
      let p = place_in ids k b.1 in
      R.used k (place ids k) (plain_true k b.0) p.1

  -- the rank of every number below past
  rank_is : (k : ℕ) → k < past → rank ids k ≡ k - (first - 1)
  unfolding rank
  rank_is zero h = omega arith
  rank_is (suc k) h =
      let r = rank_is k (omega arith) in
      if-ind (λ (n : ℕ). n ≡ suc k - (first - 1)) (in_use ids (suc k))
      (λ e. let u = used_in (suc k) e in omega (arith, u.0))
      (λ e. elim (dec_lt (suc k) first) [
        | yes l ↦ omega arith
        | no l ↦ absurd (true≢false (sym (used_yes (suc k) (omega arith) h) ∙ e))
      ])

  rank_past : 0 < first → rank ids past ≡ past - first
  unfolding rank
  rank_past pos = go past refl
    where
      go : (p : ℕ) → past ≡ p → rank ids p ≡ p - first
      go zero e = omega arith
      go (suc k) e =
          let r = rank_is k (omega arith) in
          if-ind (λ (n : ℕ). n ≡ suc k - first) (in_use ids (suc k))
          (λ u. let w = used_in (suc k) u in absurd (omega (arith, w.1)))
          (λ _. omega arith)

  -- the new number of a span's id
  new_is : (s : ℕ) → (when flagged (get_or ids s 0) then get_or ids s 0 else rank ids (get_or ids s 0)) ≡ lower (first - 1) (get_or ids s 0)
  unfolding lower
  new_is s = else_same (flagged (get_or ids s 0)) _ _ _ (λ e. rank_of (get_or ids s 0) s refl (leb-false 0x8000 (get_or ids s 0) e))
    where
      rank_of : (r s : ℕ) → get_or ids s 0 ≡ r → r < 0x8000 → rank ids r ≡ r - (first - 1)
      rank_of r s b l = elim (ℕ_discrete r 0) [
        | yes z ↦ rw z (rank_zero ids ∙ omega arith)
        | no z ↦ rank_is r (R.used r s (omega arith, l) b).1
      ]

  pub condensed_is : 0 < first → (over cut : ℕ) → condensed (record { ids = ids; most = past; over = over; cut = cut }) ≡ lowered first (record { ids = ids; most = past; over = over; cut = cut })
  unfolding condensed lowered
  condensed_is pos over cut = rw (map_on _ (lower (first - 1)) ids (λ s _. new_is s), rank_past pos) refl

  -- ---------------------------------------------------------------- demand 3 in its new reading

  abbrev d : ℕ
  d = first - 1

  abbrev ends : List ℕ
  ends = map (lower d) ids

  ends_at : (s : ℕ) → get_or ends s 0 ≡ lower d (get_or ids s 0)
  ends_at s = lower-at d ids s

  -- a new id comes from the id that is d more
  back : (k s : ℕ) → Plain k → Bears ends k s → Plain (k + d) × Bears ids (k + d) s
  back k s p b = go (get_or ids s 0) refl (sym (ends_at s) ∙ b)
    where
      go : (r : ℕ) → get_or ids s 0 ≡ r → lower d r ≡ k → Plain (k + d) × Bears ids (k + d) s
      go r e l = let w = lower-back d r k p l in (w.1, e ∙ w.0)

  forth : (k s : ℕ) → Plain (k + d) → Bears ids (k + d) s → Bears ends k s
  forth k s p b = ends_at s ∙ ap (lower d) b ∙ lower_forth d k p

  pub dense_rooms : 0 < first → Rooms F 1 ends (suc (past - first))
  dense_rooms pos = record {
    size = length-map ids (lower d) ∙ R.size;
    bare = λ s a. ends_at s ∙ ap (lower d) (R.bare s a) ∙ lower_zero d;
    one = λ k s t p x y. let a = back k s p x in let b = back k t p y in R.one (k + d) s t a.0 a.1 b.1;
    join = λ k s t p x y.
        let a = back k s p x in
        let b = back k t p y in
        joined_as F (λ u q. forth k u a.0 q) (R.join (k + d) s t a.0 a.1 b.1);
    used = λ k s p b.
        let a = back k s p b in
        let u = R.used (k + d) s a.0 a.1 in
        (omega (arith, p.0), omega (arith, u.0, u.1, p.0));
    borne = λ k a b.
        let w = R.borne (k + d) (omega arith) (omega arith) in
        ((omega arith, omega (arith, w.0.1)), (w.1.0, w.1.1, forth k w.1.0 w.0 w.1.2));
  }

-- ---------------------------------------------------------------- either form

pub formed_is : (form : Form) (F : Field) (first : ℕ) (v : Regions) → Rooms F first v.ids v.most → 0 < first → formed form v ≡ shifted form first v
unfolding formed shifted
formed_is dense F first v R pos = condensed_is F first v.ids v.most R pos v.over v.cut
formed_is compared F first v R pos = refl

pub formed_rooms : (form : Form) (F : Field) (border : ℕ) (v : Regions) → Rooms F (first_id border) v.ids v.most → 0 < first_id border
    → Rooms F (first_in form border) (formed form v).ids (past_in form (formed form v).most)
unfolding first_in past_in shifted lowered
formed_rooms dense F border v R pos = rw (formed_is dense F (first_id border) v R pos) (dense_rooms F (first_id border) v.ids v.most R pos)
formed_rooms compared F border v R pos = rw (formed_is compared F (first_id border) v R pos) R

-- the ids of the dense form are the compared form's under one renaming, which rises strictly on the ids in use and leaves flagged ids and 0
pub record Renamed (from to : List ℕ) : Type 0 where
  pub by : ℕ → ℕ
  pub none : by 0 ≡ 0
  pub rises : (j k : ℕ) → j < k → in_use from k ≡ true → by j < by k
  pub is : to ≡ map (λ r. when flagged r then r else by r) from

pub forms_differ : (v : Regions) → Renamed (formed compared v).ids (formed dense v).ids
unfolding formed condensed
forms_differ v = record { by = rank v.ids; none = rank_zero v.ids; rises = rank_rises v.ids; is = refl }
