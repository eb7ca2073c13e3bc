-- A merge renames one class of records to another of the same area that it meets. Assumes nothing.
use Prim.Native.Nat.{ℕ, zero, suc, ◌+◌, ◌<◌}
use native.Mathlib.Omega.{arith}
use native.Mathlib.Decide.{dec_lt, ℕ_discrete}
use mathlib.Core.Path.{◌≡◌, refl, sym, ap, ◌∙◌, subst}
use mathlib.Core.Bool.{Bool, true, false}
use mathlib.Core.List.{List, [], ◌∷◌, ◌++◌, map}
use lib.ListN.{length, get_or, set, take, drop, length-set, length-map}
use lib.Seq.{get_or-set_same}
use lib.Dec.{eqb}
use borrow.Author.Tests.{eqb-true, eqb-false, not-true}
use Rattle.rules.specs.Base.{when◌then◌else◌, any}
use Rattle.rules.specs.Net.{Net, near, area_of}
use Rattle.rules.specs.Records.{Rec, fresh, at, has}
use Rattle.rules.specs.Merge.{suits, Pick, picked, place, around, dedup, tidy, absorbed, emptied, renamed, Merge, merge_one, merged}
use Rattle.laws.proofs.Basics.{both, neither, if-ind, upto-ind, All, All_map, All_both, append_all, map_all, take_all}
use Rattle.laws.proofs.MergeEnds.{renamed-fresh, renamed_count, at_map}
use Rattle.rooms.specs.Linked.{Linked, stay, goes}
use Rattle.rooms.proofs.Joins.{joined_trans, joined_sym, joined-map}
use Rattle.rooms.proofs.Expanding.{Grow}
use Rattle.rooms.proofs.Listing.{at_set, at_past, Outer, under, Inner, outer_inner, Raw}

-- ---------------------------------------------------------------- lists

drop_all : (P : ℕ → Type 0) (n : ℕ) (xs : List ℕ) → All P xs → All P (drop n xs)
drop_all P zero xs h = h
drop_all P (suc n) [] h = tt
drop_all P (suc n) (x ∷ xs) h = drop_all P n xs h.1

around_all : (P : ℕ → Type 0) (l : List ℕ) (i : ℕ) → All P l → All P (around l i)
unfolding around
around_all P l i h = append_all P (drop (suc i) l) (take i l) (drop_all P (suc i) l h) (take_all P i l h)

dedup_all : (P : ℕ → Type 0) (k i : ℕ) (l : List ℕ) → All P l → All P (dedup k i l)
unfolding dedup
dedup_all P zero i l h = h
dedup_all P (suc k) i l h =
    if-ind (All P) _
    (λ _. if-ind (All P) _
    (λ _. dedup_all P k i (take i l ++ drop (suc i) l) (append_all P (take i l) (drop (suc i) l) (take_all P i l h) (drop_all P (suc i) l h)))
    (λ _. dedup_all P k (suc i) l h))
    (λ _. h)

tidy_all : (P : ℕ → Type 0) (l : List ℕ) → All P l → All P (tidy l)
unfolding tidy
tidy_all P l h = dedup_all P (suc (length l)) 0 l h

pub any_none : (p : ℕ → Bool) (l : List ℕ) → any p l ≡ false → All (λ x. p x ≡ false) l
unfolding any
any_none p [] e = tt
any_none p (x ∷ l) e = let a = neither _ _ e in (a.0, any_none p l a.1)

-- ---------------------------------------------------------------- a name for another

abbrev pub ren : ℕ → ℕ → ℕ → ℕ
ren a b x = when eqb x a then b else x

ren_hit : (a b x : ℕ) → x ≡ a → ren a b x ≡ b
ren_hit a b x e = if-ind (λ (y : ℕ). y ≡ b) (eqb x a) (λ _. refl) (λ f. absurd (eqb-false _ _ f e))

ren_miss : (a b x : ℕ) → (x ≡ a → ⊥) → ren a b x ≡ x
ren_miss a b x n = if-ind (λ (y : ℕ). y ≡ x) (eqb x a) (λ f. absurd (n (eqb-true _ _ f))) (λ _. refl)

ren_cases : (a b x k : ℕ) (P : Type 0) → ren a b x ≡ k → (x ≡ a → k ≡ b → P) → ((x ≡ a → ⊥) → x ≡ k → P) → P
ren_cases a b x k P e p q =
    elim (ℕ_discrete x a) [ yes h ↦ p h (sym e ∙ ren_hit a b x h) | no h ↦ q h (sym (ren_miss a b x h) ∙ e) ]

-- ---------------------------------------------------------------- classes of spans

-- the id that a span's record has
abbrev pub cls : List ℕ → List Rec → ℕ → ℕ
cls ids rs s = (at rs (get_or ids s 0)).id

-- a connection from class k to class r
pub record Meets (N : Net) (ids : List ℕ) (rs : List Rec) (k r : ℕ) : Type 0 where
  pub span : ℕ
  pub dir : ℕ
  pub four : dir < 4
  pub own : cls ids rs span ≡ k
  pub there : cls ids rs (near N span dir) ≡ r

-- of what a record of class k lists: if it is live, it is a class that k meets
abbrev pub Lists : Net → List ℕ → List Rec → ℕ → ℕ → Type 0
Lists N ids rs k r = ((at rs r).id ≡ 0 → ⊥) → ((at rs r).id ≡ r) × Meets N ids rs k r

pub record Sound (N : Net) (first next : ℕ) (ids : List ℕ) (rs : List Rec) : Type 0 where
  pub size : length rs ≡ suc next
  pub outer : (j : ℕ) → Outer first next j → (at rs j).id ≡ j
  pub range : (j : ℕ) → Inner first next j → ((at rs j).id ≡ 0 → ⊥) → Inner first next (at rs j).id
  pub rep : (j : ℕ) → ((at rs j).id ≡ 0 → ⊥) → (at rs (at rs j).id).id ≡ (at rs j).id
  pub area : (j s : ℕ) → ((at rs j).id ≡ 0 → ⊥) → cls ids rs s ≡ (at rs j).id → area_of N s ≡ (at rs j).area
  pub list : (j : ℕ) → ((at rs j).id ≡ 0 → ⊥) → All (Lists N ids rs (at rs j).id) (at rs j).list
  pub join : (k s t : ℕ) → (k ≡ 0 → ⊥) → cls ids rs s ≡ k → cls ids rs t ≡ k → Linked N (λ u. cls ids rs u ≡ k) s t

-- a span that has a class has a record of growth
pub cls_record : (N : Net) (first next : ℕ) (ids : List ℕ) (rs : List Rec) → Grow N first next ids → next < 0x8000
    → length rs ≡ suc next → (at rs 0).id ≡ 0 → (s : ℕ) → (cls ids rs s ≡ 0 → ⊥) → Inner first next (get_or ids s 0)
cls_record N first next ids rs g few size z s n =
    let r = get_or ids s 0 in
    elim (ℕ_discrete r 0) [
      | yes e ↦ absurd (n (ap (λ (y : ℕ). (at rs y).id) e ∙ z))
      | no e ↦ elim (dec_lt next r) [
        | yes h ↦ absurd (n (at_past rs r (omega arith)))
        | no h ↦ g.range r s (omega arith, omega arith) refl
      ]
    ]

-- ---------------------------------------------------------------- one merge, of class a into class b

module _ (N : Net) (first next : ℕ) (ids : List ℕ) (g : Grow N first next ids) (few : next < 0x8000) (rs rs' : List Rec) (a b i : ℕ) (h : Sound N first next ids rs)
    (az : a ≡ 0 → ⊥) (bz : b ≡ 0 → ⊥) (ab : b ≡ a → ⊥) (ia : (at rs i).id ≡ a) (bb : (at rs b).id ≡ b) (meet : Meets N ids rs a b) (areas : (at rs i).area ≡ (at rs b).area)
    (names : (j : ℕ) → (at rs' j).id ≡ ren a b (at rs j).id) where
  zero_id : (at rs 0).id ≡ 0
  zero_id = h.outer 0 (under g.some)

  inner_a : Inner first next a
  inner_a =
      let n : cls ids rs meet.span ≡ 0 → ⊥ = λ e. az (sym meet.own ∙ e) in
      rw meet.own at (h.range (get_or ids meet.span 0) (cls_record N first next ids rs g few h.size zero_id meet.span n) n)

  inner_b : Inner first next b
  inner_b =
      let t = near N meet.span meet.dir in
      let n : cls ids rs t ≡ 0 → ⊥ = λ e. bz (sym meet.there ∙ e) in
      rw meet.there at (h.range (get_or ids t 0) (cls_record N first next ids rs g few h.size zero_id t n) n)

  aa : (at rs a).id ≡ a
  aa = let e = h.rep i (λ z. az (sym ia ∙ z)) in rw ia at e

  cls_ren : (s : ℕ) → cls ids rs' s ≡ ren a b (cls ids rs s)
  cls_ren s = names (get_or ids s 0)

  -- live after is live before
  live_before : (j : ℕ) → ((at rs' j).id ≡ 0 → ⊥) → (at rs j).id ≡ 0 → ⊥
  live_before j n e = n (names j ∙ ren_miss a b (at rs j).id (λ k. az (sym k ∙ e)) ∙ e)

  meets_ren : (k r : ℕ) → Meets N ids rs k r → Meets N ids rs' (ren a b k) (ren a b r)
  meets_ren k r m = record {
    span = m.span;
    dir = m.dir;
    four = m.four;
    own = cls_ren m.span ∙ ap (ren a b) m.own;
    there = cls_ren (near N m.span m.dir) ∙ ap (ren a b) m.there;
  }

  pub lists_ren : (k r : ℕ) → Lists N ids rs k r → Lists N ids rs' (ren a b k) (ren a b r)
  lists_ren k r l n =
      elim (ℕ_discrete r a) [
        | yes e ↦
            let x = ren_hit a b r e in
            let m = l (λ z. az (sym aa ∙ ap (λ (y : ℕ). (at rs y).id) (sym e) ∙ z)) in
            (ap (λ (y : ℕ). (at rs' y).id) x ∙ names b ∙ ap (ren a b) bb ∙ ren_miss a b b ab ∙ sym x, meets_ren k r m.1)
        | no e ↦
            let x = ren_miss a b r e in
            let m = l (live_before r (λ z. n (ap (λ (y : ℕ). (at rs' y).id) x ∙ z))) in
            (ap (λ (y : ℕ). (at rs' y).id) x ∙ names r ∙ ap (ren a b) m.0, meets_ren k r m.1)
      ]

  merge_outer : (j : ℕ) → Outer first next j → (at rs' j).id ≡ j
  merge_outer j o =
      let e = h.outer j o in
      names j ∙ ren_miss a b (at rs j).id (λ k. outer_inner first next j o (rw (sym e ∙ k) inner_a)) ∙ e

  merge_range : (j : ℕ) → Inner first next j → ((at rs' j).id ≡ 0 → ⊥) → Inner first next (at rs' j).id
  merge_range j o n =
      ren_cases a b (at rs j).id (at rs' j).id (Inner first next (at rs' j).id) (sym (names j))
      (λ _ e. rw e inner_b)
      (λ _ e. rw (← e) (h.range j o (live_before j n)))

  merge_rep : (j : ℕ) → ((at rs' j).id ≡ 0 → ⊥) → (at rs' (at rs' j).id).id ≡ (at rs' j).id
  merge_rep j n =
      ren_cases a b (at rs j).id (at rs' j).id _ (sym (names j))
      (λ _ e. ap (λ (y : ℕ). (at rs' y).id) e ∙ names b ∙ ap (ren a b) bb ∙ ren_miss a b b ab ∙ sym e)
      (λ x e.
      let r = h.rep j (live_before j n) in
      ap (λ (y : ℕ). (at rs' y).id) (sym e) ∙ names (at rs j).id ∙ ap (ren a b) r ∙ ren_miss a b (at rs j).id x ∙ e)

  -- the one area of both
  span_area : (s : ℕ) → ren a b (cls ids rs s) ≡ b → area_of N s ≡ (at rs b).area
  span_area s e =
      ren_cases a b (cls ids rs s) b _ e
      (λ x _. h.area i s (λ z. az (sym ia ∙ z)) (x ∙ sym ia) ∙ areas)
      (λ _ x. h.area b s (λ z. bz (sym bb ∙ z)) (x ∙ sym bb))

  record_area : (j : ℕ) → ren a b (at rs j).id ≡ b → (at rs j).area ≡ (at rs b).area
  record_area j e =
      ren_cases a b (at rs j).id b _ e
      (λ x _.
      let s = meet.span in
      sym (h.area j s (λ z. az (sym x ∙ z)) (meet.own ∙ sym x)) ∙ span_area s (ren_hit a b (cls ids rs s) meet.own))
      (λ _ x.
      let t = near N meet.span meet.dir in
      sym (h.area j t (λ z. bz (sym x ∙ z)) (meet.there ∙ sym x)) ∙ span_area t (ap (ren a b) meet.there ∙ ren_miss a b b ab))

  merge_area : (j s : ℕ) → ((at rs' j).id ≡ 0 → ⊥) → cls ids rs' s ≡ (at rs' j).id → area_of N s ≡ (at rs j).area
  merge_area j s n e =
      let e2 : ren a b (cls ids rs s) ≡ (at rs' j).id = sym (cls_ren s) ∙ e in
      elim (ℕ_discrete (at rs' j).id b) [
        | yes x ↦ span_area s (e2 ∙ x) ∙ sym (record_area j (sym (names j) ∙ x))
        | no x ↦
            ren_cases a b (cls ids rs s) (at rs' j).id _ e2 (λ _ y. absurd (x y))
            (λ _ y. ren_cases a b (at rs j).id (at rs' j).id _ (sym (names j)) (λ _ w. absurd (x w))
            (λ _ w. h.area j s (live_before j n) (y ∙ sym w)))
      ]

  -- every span of the new class is joined to the far side of the meeting
  merge_hub : (s : ℕ) → ren a b (cls ids rs s) ≡ b → Linked N (λ u. cls ids rs' u ≡ b) s (near N meet.span meet.dir)
  merge_hub s e =
      let t = near N meet.span meet.dir in
      let from_a : (u : ℕ) → cls ids rs u ≡ a → cls ids rs' u ≡ b = λ u k. cls_ren u ∙ ren_hit a b (cls ids rs u) k in
      let from_b : (u : ℕ) → cls ids rs u ≡ b → cls ids rs' u ≡ b = λ u k. cls_ren u ∙ ap (ren a b) k ∙ ren_miss a b b ab in
      ren_cases a b (cls ids rs s) b _ e
      (λ x _. joined_trans N (λ u. cls ids rs' u ≡ b) (joined-map N from_a (h.join a s meet.span az x meet.own))
      (goes meet.dir meet.four (from_a meet.span meet.own) (stay (from_b t meet.there))))
      (λ _ x. joined-map N from_b (h.join b s t bz x meet.there))

  merge_join : (k s t : ℕ) → (k ≡ 0 → ⊥) → cls ids rs' s ≡ k → cls ids rs' t ≡ k → Linked N (λ u. cls ids rs' u ≡ k) s t
  merge_join k s t z x y =
      let x2 : ren a b (cls ids rs s) ≡ k = sym (cls_ren s) ∙ x in
      let y2 : ren a b (cls ids rs t) ≡ k = sym (cls_ren t) ∙ y in
      elim (ℕ_discrete k b) [
        | yes e ↦ subst (λ (n : ℕ). Linked N (λ u. cls ids rs' u ≡ n) s t) (sym e)
            (joined_trans N (λ u. cls ids rs' u ≡ b) (merge_hub s (x2 ∙ e)) (joined_sym N (λ u. cls ids rs' u ≡ b) (merge_hub t (y2 ∙ e))))
        | no e ↦
            ren_cases a b (cls ids rs s) k _ x2 (λ _ w. absurd (e w))
            (λ n v. ren_cases a b (cls ids rs t) k _ y2 (λ _ w. absurd (e w))
            (λ _ w. joined-map N (λ u q. cls_ren u ∙ ren_miss a b (cls ids rs u) (λ c. n (v ∙ sym q ∙ c)) ∙ q) (h.join k s t z v w)))
      ]

  pub merge_sound : length rs' ≡ length rs → ((j : ℕ) → (at rs' j).area ≡ (at rs j).area)
      → ((j : ℕ) → ((at rs j).id ≡ 0 → ⊥) → All (Lists N ids rs' (ren a b (at rs j).id)) (at rs' j).list) → Sound N first next ids rs'
  merge_sound n ar ls = record {
    size = n ∙ h.size;
    outer = merge_outer;
    range = merge_range;
    rep = merge_rep;
    area = λ j s z e. merge_area j s z e ∙ sym (ar j);
    list = λ j z. rw (names j) (ls j (live_before j z));
    join = merge_join;
  }

-- ---------------------------------------------------------------- the records after a merge

-- class a's record at i goes into b's
abbrev pub after : List Rec → ℕ → ℕ → ℕ → List Rec
after rs i a b = map (renamed a b) (set (set rs b (absorbed (at rs b) (at rs i))) i (emptied (at rs i)))

renamed_id : (a b : ℕ) (r : Rec) → (a ≡ 0 → ⊥) → (renamed a b r).id ≡ ren a b r.id
unfolding renamed
renamed_id a b r z =
    if-ind (λ (x : Rec). x.id ≡ ren a b r.id) (eqb r.id 0)
    (λ e. sym (ren_miss a b r.id (λ k. z (sym k ∙ eqb-true _ _ e))))
    (λ _. refl)

renamed_area : (a b : ℕ) (r : Rec) → (renamed a b r).area ≡ r.area
unfolding renamed
renamed_area a b r = if-ind (λ (x : Rec). x.area ≡ r.area) (eqb r.id 0) (λ _. refl) (λ _. refl)

renamed_list_lem : (a b : ℕ) (r : Rec) (Q : ℕ → Type 0) → (r.id ≡ 0 → ⊥) → All (λ x. Q (ren a b x)) r.list → All Q (renamed a b r).list
unfolding renamed
renamed_list_lem a b r Q z h =
    if-ind (λ (x : Rec). All Q x.list) (eqb r.id 0)
    (λ e. absurd (z (eqb-true _ _ e)))
    (λ _. if-ind (All Q) (has r.list a)
    (λ _. tidy_all Q (map (λ x. when eqb x a then b else x) r.list) (map_all (λ x. Q (ren a b x)) Q (λ x. when eqb x a then b else x) r.list (λ x k. k) h))
    (λ e. All_map r.list (λ x k. subst Q (ren_miss a b x (λ q. eqb-false _ _ k.0 (sym q))) k.1) (All_both (λ x. eqb a x ≡ false) (λ x. Q (ren a b x)) r.list (any_none (eqb a) r.list e) h)))

set_empty : (rs : List Rec) (i : ℕ) (r : Rec) → i < length rs → (at (set rs i (emptied r)) i).count ≡ 0
unfolding at emptied
set_empty rs i r h = ap (λ (x : Rec). x.count) (get_or-set_same rs i (emptied r) (fresh 0) h)

module _ (rs : List Rec) (i a b : ℕ) (az : a ≡ 0 → ⊥) where
  mid : List Rec
  mid = set (set rs b (absorbed (at rs b) (at rs i))) i (emptied (at rs i))

  mid_id : (j : ℕ) → (at mid j).id ≡ (at rs j).id
  unfolding mid absorbed emptied
  mid_id j =
      at_set (set rs b (absorbed (at rs b) (at rs i))) i (emptied (at rs i)) j (λ (x : Rec). x.id ≡ (at rs j).id) (λ e. ap (λ (y : ℕ). (at rs y).id) (sym e))
      (at_set rs b (absorbed (at rs b) (at rs i)) j (λ (x : Rec). x.id ≡ (at rs j).id) (λ e. ap (λ (y : ℕ). (at rs y).id) (sym e)) refl)

  mid_area : (j : ℕ) → (at mid j).area ≡ (at rs j).area
  unfolding mid absorbed emptied
  mid_area j =
      at_set (set rs b (absorbed (at rs b) (at rs i))) i (emptied (at rs i)) j (λ (x : Rec). x.area ≡ (at rs j).area) (λ e. ap (λ (y : ℕ). (at rs y).area) (sym e))
      (at_set rs b (absorbed (at rs b) (at rs i)) j (λ (x : Rec). x.area ≡ (at rs j).area) (λ e. ap (λ (y : ℕ). (at rs y).area) (sym e)) refl)

  mid_list : (j : ℕ) (Q : ℕ → Type 0) → All Q (at rs j).list → (j ≡ b → All Q (at rs b).list × All Q (at rs i).list) → All Q (at mid j).list
  unfolding mid absorbed emptied
  mid_list j Q h k =
      at_set (set rs b (absorbed (at rs b) (at rs i))) i (emptied (at rs i)) j (λ (x : Rec). All Q x.list) (λ e. tt)
      (at_set rs b (absorbed (at rs b) (at rs i)) j (λ (x : Rec). All Q x.list)
      (λ e.
      let l = (at rs b).list in
      let m = (at rs i).list in
      let p = place l (at rs i).id in
      let q = place m (at rs b).id in
      tidy_all Q (around l p ++ around m q) (append_all Q (around l p) (around m q) (around_all Q l p (k e).0) (around_all Q m q (k e).1)))
      h)

  after_is : (j : ℕ) → at (after rs i a b) j ≡ renamed a b (at mid j)
  unfolding mid
  after_is j = at_map (renamed a b) (renamed-fresh a b) (set (set rs b (absorbed (at rs b) (at rs i))) i (emptied (at rs i))) j

  pub after_id : (j : ℕ) → (at (after rs i a b) j).id ≡ ren a b (at rs j).id
  after_id j = ap (λ (x : Rec). x.id) (after_is j) ∙ renamed_id a b (at mid j) az ∙ ap (ren a b) (mid_id j)

  pub after_count : (j : ℕ) (P : ℕ → Type 0) → P (at rs j).count → (j ≡ b → P ((at rs b).count + (at rs i).count)) → (j ≡ i → P 0) → P (at (after rs i a b) j).count
  unfolding mid absorbed emptied
  after_count j P p q z =
      rw (ap (λ (x : Rec). x.count) (after_is j) ∙ renamed_count a b (at mid j))
      (at_set (set rs b (absorbed (at rs b) (at rs i))) i (emptied (at rs i)) j (λ (x : Rec). P x.count) z
      (at_set rs b (absorbed (at rs b) (at rs i)) j (λ (x : Rec). P x.count) q p))

  pub after_empty : i < length rs → (at (after rs i a b) i).count ≡ 0
  unfolding mid
  after_empty h = ap (λ (x : Rec). x.count) (after_is i) ∙ renamed_count a b (at mid i) ∙ emptied-at
    where
      emptied-at : (at (set (set rs b (absorbed (at rs b) (at rs i))) i (emptied (at rs i))) i).count ≡ 0
      emptied-at = set_empty (set rs b (absorbed (at rs b) (at rs i))) i (at rs i) (rw length-set h)

  after_area : (j : ℕ) → (at (after rs i a b) j).area ≡ (at rs j).area
  after_area j = ap (λ (x : Rec). x.area) (after_is j) ∙ renamed_area a b (at mid j) ∙ mid_area j

  after_list : (j : ℕ) (Q : ℕ → Type 0) → ((at rs j).id ≡ 0 → ⊥) → All (λ x. Q (ren a b x)) (at mid j).list → All Q (at (after rs i a b) j).list
  after_list j Q z h = rw (after_is j) (renamed_list_lem a b (at mid j) Q (λ e. z (sym (mid_id j) ∙ e)) h)

  after_size : length (after rs i a b) ≡ length rs
  after_size = simp (length-map, length-set)

-- ---------------------------------------------------------------- the neighbour picked

pub record Picked (N : Net) (ids : List ℕ) (rs : List Rec) (r : Rec) (b : ℕ) : Type 0 where
  pub some : b ≡ 0 → ⊥
  pub self : (at rs b).id ≡ b
  pub meets : Meets N ids rs r.id b
  pub area : r.area ≡ (at rs b).area

suits_area : (a b : Rec) → suits a b ≡ true → a.area ≡ b.area
unfolding suits
suits_area a b e = eqb-true _ _ (both _ _ (both _ _ e).0).0

picked_is : (N : Net) (ids : List ℕ) (rs : List Rec) (r : Rec) (l : List ℕ) (p : Pick) → All (Lists N ids rs r.id) l
    → ((p.id ≡ r.id → ⊥) → Picked N ids rs r p.id) → ((picked rs r l p).id ≡ r.id → ⊥) → Picked N ids rs r (picked rs r l p).id
unfolding picked
picked_is N ids rs r [] p a h = h
picked_is N ids rs r (x ∷ l) p a h =
    picked_is N ids rs r l _ a.1
    (if-ind (λ (y : Pick). (y.id ≡ r.id → ⊥) → Picked N ids rs r y.id) _
    (λ e n.
    let e1 = both _ _ (both _ _ e).0 in
    let e2 = both _ _ (both _ _ (both _ _ e1.0).0).0 in
    let z : (at rs x).id ≡ 0 → ⊥ = eqb-false _ _ (not-true _ e2.1) in
    let m = a.0 z in
    record {
      some = z;
      self = ap (λ (y : ℕ). (at rs y).id) m.0;
      meets = rw m.0 m.1;
      area = suits_area r (at rs x) e1.1 ∙ ap (λ (y : ℕ). (at rs y).area) (sym m.0);
    })
    (λ _. h))

-- ---------------------------------------------------------------- all merges

module _ (N : Net) (first next : ℕ) (ids : List ℕ) (g : Grow N first next ids) (few : next < 0x8000) where
  after_sound : (rs : List Rec) (i b : ℕ) → Sound N first next ids rs → ((at rs i).id ≡ 0 → ⊥) → (b ≡ (at rs i).id → ⊥) → Picked N ids rs (at rs i) b
      → Sound N first next ids (after rs i (at rs i).id b)
  after_sound rs i b h z n p =
      let a = (at rs i).id in
      let rs' = after rs i a b in
      let names = after_id rs i a b z in
      let turn : (k x : ℕ) → Lists N ids rs k x → Lists N ids rs' (ren a b k) (ren a b x) = λ k x. lists_ren N first next ids g few rs rs' a b i h z p.some n refl p.self p.meets p.area names k x in
      merge_sound N first next ids g few rs rs' a b i h z p.some n refl p.self p.meets p.area names (after_size rs i a b z) (after_area rs i a b z)
      (λ j live. after_list rs i a b z j (Lists N ids rs' (ren a b (at rs j).id)) live
      (mid_list rs i a b z j (λ x. Lists N ids rs' (ren a b (at rs j).id) (ren a b x))
      (All_map (at rs j).list (λ x l. turn (at rs j).id x l) (h.list j live))
      (λ e.
      let jb : (at rs j).id ≡ b = ap (λ (y : ℕ). (at rs y).id) e ∙ p.self in
      let rj : ren a b (at rs j).id ≡ b = ap (ren a b) jb ∙ ren_miss a b b n in
      let from_b : All (λ x. Lists N ids rs' (ren a b (at rs j).id) (ren a b x)) (at rs b).list =
      All_map (at rs b).list (λ x l. subst (λ (k : ℕ). Lists N ids rs' (ren a b k) (ren a b x)) (p.self ∙ sym jb) (turn (at rs b).id x l)) (h.list b (λ k. p.some (sym p.self ∙ k))) in
      let from_a : All (λ x. Lists N ids rs' (ren a b (at rs j).id) (ren a b x)) (at rs i).list =
      All_map (at rs i).list (λ x l. rw (rj ∙ sym (ren_hit a b a refl)) (turn a x l)) (h.list i z) in
      (from_b, from_a))))

  merge_one_lem : (area i : ℕ) (x : Merge) → Sound N first next ids x.recs → Sound N first next ids (merge_one area i x).recs
  unfolding merge_one
  merge_one_lem area i x h =
      let rs = x.recs in
      let r = at rs i in
      let p = picked rs r r.list (record { size = 65536; id = r.id }) in
      if-ind (λ (y : Merge). Sound N first next ids y.recs) _ (λ _. h)
      (λ e.
      let e1 = neither _ _ (neither _ _ e).0 in
      let e2 = neither _ _ (neither _ _ (neither _ _ e1.0).0).0 in
      let z : r.id ≡ 0 → ⊥ = eqb-false _ _ e2.0 in
      let n : p.id ≡ r.id → ⊥ = eqb-false _ _ e1.1 in
      after_sound rs i p.id h z n (picked_is N ids rs r r.list _ (h.list i z) (λ k. absurd (k refl)) n))

  pub merged_sound : (area k : ℕ) (rs : List Rec) → Sound N first next ids rs → Sound N first next ids (merged area k rs)
  unfolding merged
  merged_sound area zero rs h = h
  merged_sound area (suc k) rs h =
      let x = upto-ind (λ j (y : Merge). Sound N first next ids y.recs) (merge_one area) (record { recs = rs; merges = 0 }) (length rs) h (λ j y _ q. merge_one_lem area j y q) in
      if-ind (λ (y : List Rec). Sound N first next ids y) _ (λ _. h) (λ _. merged_sound area k _ x)

  -- before any merge
  pub raw_sound : (rs : List Rec) → Raw N first next ids rs → Sound N first next ids rs
  raw_sound rs h =
      let live : (s : ℕ) → (cls ids rs s ≡ 0 → ⊥) → Inner first next (get_or ids s 0) = λ s z. cls_record N first next ids rs g few h.size (h.outer 0 (under g.some)) s z in
      record {
        size = h.size;
        outer = h.outer;
        range = λ j n z. rw (h.own j z) n;
        rep = λ j z. ap (λ (y : ℕ). (at rs y).id) (h.own j z);
        area = λ j s z e.
            let zs : cls ids rs s ≡ 0 → ⊥ = λ k. z (sym e ∙ k) in
            let is_j : get_or ids s 0 ≡ j = sym (h.own (get_or ids s 0) zs) ∙ e ∙ h.own j z in
            let n = live s zs in
            h.area j (omega (arith, g.some), omega arith) s is_j;
        list = λ j z. All_map (at rs j).list (λ r l n. (
          h.own r n,
          record {
            span = l.span;
            dir = l.dir;
            four = l.four;
            own = ap (λ (y : ℕ). (at rs y).id) l.own;
            there = ap (λ (y : ℕ). (at rs y).id) l.there ∙ h.own r n;
          },
        )) (h.list j);
        join = λ k s t z x y.
            let zs : cls ids rs s ≡ 0 → ⊥ = λ q. z (sym x ∙ q) in
            let zt : cls ids rs t ≡ 0 → ⊥ = λ q. z (sym y ∙ q) in
            let is : get_or ids s 0 ≡ k = sym (h.own (get_or ids s 0) zs) ∙ x in
            let it : get_or ids t 0 ≡ k = sym (h.own (get_or ids t 0) zt) ∙ y in
            let n = live s zs in
            joined-map N (λ u q. ap (λ (v : ℕ). (at rs v).id) (q ∙ sym is) ∙ x) (g.join k s t (omega (arith, g.some), omega arith) is it);
      }
