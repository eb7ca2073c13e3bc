-- The merge with floors that stay gives what the rule gives. Assumes nothing.
use Prim.Native.Nat.{ℕ, zero, suc, ◌+◌, ◌-◌, ◌≤◌, ◌<◌}
use native.Mathlib.Omega.{arith}
use native.Mathlib.Decide.{ℕ_discrete}
use mathlib.Core.Path.{◌≡◌, refl, sym, ap, ◌∙◌}
use mathlib.Core.Logic.{⊎_elim, ◌⊎◌, inl, inr}
use mathlib.Core.Bool.{Bool, true, false, not, true≢false, false≢true}
use mathlib.Core.List.{List, [], ◌∷◌, ◌++◌, map}
use lib.ListN.{length, set, take, drop, length-set, length-map}
use lib.Seq.{get_or-set_same, get_or-set_other}
use lib.Dec.{eqb, ltb}
use borrow.Author.Tests.{eq-eqb, ne_eqb, eqb-true, eqb-false, not-true}
use Rattle.rules.specs.Base.{◌and◌, ◌or◌, when◌then◌else◌, any, upto}
use Rattle.rules.specs.Growth.{flagged}
use Rattle.rules.specs.Contour.{trim}
use Rattle.rules.specs.Records.{Rec, at, fresh, has, once, once_all}
use Rattle.rules.specs.Merge.{swapped, renamed, absorbed, emptied, suits, picked, Pick, merge_one, Merge, merged, tidy, around, place}
use Rattle.rules.specs.Numbering.{live, overlaps, cuts, numbered, number_of}
use Rattle.laws.proofs.Basics.{both, either, neither, if-ind, or_left, or_right}
use Rattle.space.proofs.Laws.{cases}
use Rattle.laws.specs.Squeeze.{squeeze}
use Rattle.laws.proofs.Tidy.{tidy_is}
use Rattle.laws.proofs.LiveRecords.{live_in}
use Rattle.laws.proofs.MergeEnds.{renamed-fresh, at_map}
use Rattle.pool.specs.Lists.{swap_one}
use Rattle.pool.specs.Part.{renamed_list}
use Rattle.pool.specs.Pool.{new_list}
use Rattle.pool.specs.Alike.{Rep, Same, Reps, Alike}
use Rattle.pool.specs.Fixed.{floor_in, ids_of, suits_f, better, pick_one, picked_f, renamed_f, absorbed_f, merged_pair, merge_one_f, merged_f}
use Rattle.pool.proofs.HasLaws.{regions_eq, map_same}
use Rattle.pool.proofs.FloorLaws.{floors_start_lem, has_first, has_later, swap_has, swap_old, swap_other, Step, floors_step, floors_agree}

-- ---- the picking

-- one entry, as the rule has it
abbrev rule_one : Rec → ℕ → Rec → Pick → Pick
rule_one a r b p =
    when not (flagged r) and not (eqb b.id 0) and not b.overlap and ltb b.count p.size and suits a b and suits b a
    then record { size = b.count; id = b.id } else p

chain : (f z o c x y : Bool) (k p : Pick) → (when not f and not z and not o and c and x and y then k else p) ≡ (when f then p else when not z and not o and c and x and y then k else p)
unfolding ◌and◌ when◌then◌else◌
chain true z o c x y k p = refl
chain false z o c x y k p = refl

dead_one : (o c x y x' y' : Bool) (k p : Pick) → (when not true and not o and c and x and y then k else p) ≡ (when not true and not o and c and x' and y' then k else p)
unfolding ◌and◌ when◌then◌else◌
dead_one o c x y x' y' k p = refl

flagged-one : (a b : Bool) (k k' p : Pick) → (when true then p else when a then k else p) ≡ (when true then p else when b then k' else p)
unfolding when◌then◌else◌
flagged-one a b k k' p = refl

pick_vals : (r i i' c c' : ℕ) (o o' x y x' y' : Bool) (p : Pick) → i ≡ i' → c ≡ c' → o ≡ o' → (flagged r ≡ false → (i' ≡ 0 → ⊥) → (x ≡ x') × (y ≡ y'))
    → ◌≡◌ {A = Pick} (when not (flagged r) and not (eqb i 0) and not o and ltb c p.size and x and y then record { size = c; id = i } else p)
    (when flagged r then p else when not (eqb i' 0) and not o' and ltb c' p.size and x' and y' then record { size = c'; id = i' } else p)
pick_vals r i i' c c' o o' x y x' y' p ei ec eo h =
    chain (flagged r) (eqb i 0) o (ltb c p.size) x y (record { size = c; id = i }) p
    ∙ rw (ei, ec, eo) (⊎_elim
    (λ (f : flagged r ≡ true). rw f (flagged-one _ _ _ _ p))
    (λ (f : flagged r ≡ false). elim (ℕ_discrete i' 0) [
      | yes z ↦ rw (eq-eqb i' 0 z) (ap (λ (q : Pick). when flagged r then p else q) (dead_one o' (ltb c' p.size) x y x' y' (record { size = c'; id = i' }) p))
      | no z ↦ let q = h f z in rw (q.0, q.1) refl
    ])
    (cases (flagged r)))

pick_rec : (fs : List Rec) (a a' b b' : Rec) → Same b b' → (r : ℕ) (p : Pick)
    → (flagged r ≡ false → (b'.id ≡ 0 → ⊥) → (suits a b ≡ suits_f fs a' b') × (suits b a ≡ suits_f fs b' a'))
    → rule_one a r b p ≡ pick_one fs a' r b' p
unfolding pick_one better
pick_rec fs a a' b b' s r p h =
    pick_vals r b.id b'.id b.count b'.count b.overlap b'.overlap (suits a b) (suits b a) (suits_f fs a' b') (suits_f fs b' a') p s.id s.count s.overlap h

module _ (rs fs : List Rec) (A : Alike rs fs) where
  suits_agree : (i j : ℕ) → Rep fs i → Rep fs j → suits (at rs i) (at rs j) ≡ suits_f fs (at fs i) (at fs j)
  unfolding suits suits_f
  suits_agree i j ri rj =
      let a = A.same i in
      let b = A.same j in
      let f : has (at rs i).floors (at fs j).id ≡ floor_in (ids_of fs) fs (at fs i).id (at fs j).id = rw (ri.0, rj.0) (floors_agree rs fs A.floors i j ri rj) in
      rw (a.area, b.area, b.id, a.list, f) refl

  picked-agrees : (i : ℕ) → Rep fs i → (l : List ℕ) → ((r : ℕ) → has l r ≡ true → flagged r ≡ false → ((at fs r).id ≡ 0 → ⊥) → (at fs r).id ≡ r)
      → (p : Pick) → picked rs (at rs i) l p ≡ picked_f fs (at fs i) l p
  unfolding picked picked_f
  picked-agrees i ri [] h p = refl
  picked-agrees i ri (r ∷ l) h p =
      let e : rule_one (at rs i) r (at rs r) p ≡ pick_one fs (at fs i) r (at fs r) p =
      pick_rec fs (at rs i) (at fs i) (at rs r) (at fs r) (A.same r) r p (λ f z.
      let rr : Rep fs r = (h r (has_first r l r refl) f z, λ q. z (h r (has_first r l r refl) f z ∙ q)) in
      (suits_agree i r ri rr, suits_agree r i rr ri)) in
      ap (picked rs (at rs i) l) e ∙ picked-agrees i ri l (λ q w. h q (has_later r l q w)) (pick_one fs (at fs i) r (at fs r) p)

-- ---- lists only lose entries

pub has_some : (x : ℕ) (l : List ℕ) (v : ℕ) → has (x ∷ l) v ≡ true → (v ≡ x) ⊎ (has l v ≡ true)
unfolding any
has_some x l v h = either _ (eqb v x) (any (eqb v) l) h (λ e. inl (eqb-true v x e)) (λ e. inr e)

has-none : (v : ℕ) → has [] v ≡ false
unfolding any
has-none v = refl

pub take-has : (n : ℕ) (l : List ℕ) (v : ℕ) → has (take n l) v ≡ true → has l v ≡ true
take-has zero l v h = absurd (false≢true (sym (has-none v) ∙ h))
take-has (suc n) [] v h = h
take-has (suc n) (x ∷ l) v h = ⊎_elim (λ (e : v ≡ x). has_first x l v e) (λ (e : has (take n l) v ≡ true). has_later x l v (take-has n l v e)) (has_some x (take n l) v h)

drop-has : (n : ℕ) (l : List ℕ) (v : ℕ) → has (drop n l) v ≡ true → has l v ≡ true
drop-has zero l v h = h
drop-has (suc n) [] v h = h
drop-has (suc n) (x ∷ l) v h = has_later x l v (drop-has n l v h)

pub append-has : (a b : List ℕ) (v : ℕ) → has (a ++ b) v ≡ true → (has a v ≡ true) ⊎ (has b v ≡ true)
append-has [] b v h = inr h
append-has (x ∷ a) b v h =
    ⊎_elim (λ (e : v ≡ x). inl (has_first x a v e))
    (λ (e : has (a ++ b) v ≡ true). ⊎_elim (λ (f : has a v ≡ true). inl (has_later x a v f)) (λ (f : has b v ≡ true). inr f) (append-has a b v e))
    (has_some x (a ++ b) v h)

pub around-has : (l : List ℕ) (i v : ℕ) → has (around l i) v ≡ true → has l v ≡ true
unfolding around
around-has l i v h = ⊎_elim (λ (e : has (drop (suc i) l) v ≡ true). drop-has (suc i) l v e) (λ (e : has (take i l) v ≡ true). take-has i l v e) (append-has (drop (suc i) l) (take i l) v h)

squeeze-has : (l : List ℕ) (v : ℕ) → has (squeeze l) v ≡ true → has l v ≡ true
unfolding squeeze
squeeze-has [] v h = h
squeeze-has (x ∷ l) v h =
    if-ind (λ (q : List ℕ). has q v ≡ true → has (x ∷ l) v ≡ true) _
    (λ _ w. has_later x l v (squeeze-has l v w))
    (λ _ w. ⊎_elim (λ (e : v ≡ x). has_first x l v e) (λ (e : has (squeeze l) v ≡ true). has_later x l v (squeeze-has l v e)) (has_some x (squeeze l) v w)) h

trim-has : (l : List ℕ) (v : ℕ) → has (trim l) v ≡ true → has l v ≡ true
unfolding trim
trim-has l v h = if-ind (λ (q : List ℕ). has q v ≡ true → has l v ≡ true) _ (λ _ w. take-has (length l - 1) l v w) (λ _ w. w) h

pub tidy-has : (l : List ℕ) (v : ℕ) → has (tidy l) v ≡ true → has l v ≡ true
tidy-has l v h = squeeze-has l v (trim-has (squeeze l) v (rw (tidy_is l) at h))

-- ---- a record renamed, field by field

Was : ℕ → ℕ → List ℕ → ℕ → Type 0
Was o n l v = (u : ℕ) × (has l u ≡ true) × (swap_one o n u ≡ v)

swap_not : (o n y : ℕ) → (y ≡ o → ⊥) → (when eqb y o then n else y) ≡ y
unfolding when◌then◌else◌
swap_not o n y h = rw (ne_eqb y o h)

module _ (o n : ℕ) (nz : o ≡ 0 → ⊥) (r : Rec) where
  swap_zero : (y : ℕ) → y ≡ 0 → (when eqb y o then n else y) ≡ y
  swap_zero y e = swap_not o n y (λ q. nz (sym q ∙ e))

  ren_id : (renamed o n r).id ≡ swap_one o n r.id
  unfolding renamed swap_one
  ren_id = if-ind (λ (z : Rec). z.id ≡ (when eqb r.id o then n else r.id)) (eqb r.id 0)
      (λ e. sym (swap_zero r.id (eqb-true r.id 0 e))) (λ _. refl)

  ren_count : (renamed o n r).count ≡ r.count
  unfolding renamed
  ren_count = if-ind (λ (z : Rec). z.count ≡ r.count) (eqb r.id 0) (λ _. refl) (λ _. refl)

  ren_area : (renamed o n r).area ≡ r.area
  unfolding renamed
  ren_area = if-ind (λ (z : Rec). z.area ≡ r.area) (eqb r.id 0) (λ _. refl) (λ _. refl)

  ren_visited : (renamed o n r).visited ≡ r.visited
  unfolding renamed
  ren_visited = if-ind (λ (z : Rec). z.visited ≡ r.visited) (eqb r.id 0) (λ _. refl) (λ _. refl)

  ren_overlap : (renamed o n r).overlap ≡ r.overlap
  unfolding renamed
  ren_overlap = if-ind (λ (z : Rec). z.overlap ≡ r.overlap) (eqb r.id 0) (λ _. refl) (λ _. refl)

  ren_cut : (renamed o n r).cut ≡ r.cut
  unfolding renamed
  ren_cut = if-ind (λ (z : Rec). z.cut ≡ r.cut) (eqb r.id 0) (λ _. refl) (λ _. refl)

  ren_floors : (r.id ≡ 0 → ⊥) → (renamed o n r).floors ≡ swapped o n r.floors
  unfolding renamed
  ren_floors l = if-ind (λ (z : Rec). z.floors ≡ swapped o n r.floors) (eqb r.id 0) (λ e. absurd (l (eqb-true r.id 0 e))) (λ _. refl)

  pub ren_f_id : (renamed_f o n r).id ≡ swap_one o n r.id
  unfolding renamed_f swap_one
  ren_f_id = if-ind (λ (z : Rec). z.id ≡ (when eqb r.id o then n else r.id)) (eqb r.id 0)
      (λ e. sym (swap_zero r.id (eqb-true r.id 0 e))) (λ _. refl)

  pub ren_f_count : (renamed_f o n r).count ≡ r.count
  unfolding renamed_f
  ren_f_count = if-ind (λ (z : Rec). z.count ≡ r.count) (eqb r.id 0) (λ _. refl) (λ _. refl)

  pub ren_f_area : (renamed_f o n r).area ≡ r.area
  unfolding renamed_f
  ren_f_area = if-ind (λ (z : Rec). z.area ≡ r.area) (eqb r.id 0) (λ _. refl) (λ _. refl)

  pub ren_f_visited : (renamed_f o n r).visited ≡ r.visited
  unfolding renamed_f
  ren_f_visited = if-ind (λ (z : Rec). z.visited ≡ r.visited) (eqb r.id 0) (λ _. refl) (λ _. refl)

  pub ren_f_overlap : (renamed_f o n r).overlap ≡ r.overlap
  unfolding renamed_f
  ren_f_overlap = if-ind (λ (z : Rec). z.overlap ≡ r.overlap) (eqb r.id 0) (λ _. refl) (λ _. refl)

  pub ren_f_cut : (renamed_f o n r).cut ≡ r.cut
  unfolding renamed_f
  ren_f_cut = if-ind (λ (z : Rec). z.cut ≡ r.cut) (eqb r.id 0) (λ _. refl) (λ _. refl)

  pub ren_f_floors : (renamed_f o n r).floors ≡ r.floors
  unfolding renamed_f
  ren_f_floors = if-ind (λ (z : Rec). z.floors ≡ r.floors) (eqb r.id 0) (λ _. refl) (λ _. refl)

  -- an entry of a live record's list was one before
  ren_f_list : (r.id ≡ 0 → ⊥) → (v : ℕ) → has (renamed_f o n r).list v ≡ true → Was o n r.list v
  unfolding renamed_f Was
  ren_f_list l v h =
      if-ind (λ (z : Rec). has z.list v ≡ true → Was o n r.list v) (eqb r.id 0)
      (λ e _. absurd (l (eqb-true r.id 0 e)))
      (λ _ w. if-ind (λ (q : List ℕ). has q v ≡ true → Was o n r.list v) (has r.list o)
      (λ _ y. swap_has o n r.list v (tidy-has (swapped o n r.list) v y))
      (λ e y. (v, y, swap_other o n v (λ q. true≢false (sym y ∙ ap (has r.list) q ∙ e)))) w) h

list_if : (b : Bool) (r q : Rec) → (when b then r else q).list ≡ (when b then r.list else q.list)
unfolding when◌then◌else◌
list_if true r q = refl
list_if false r q = refl

ren_new_list : (o n : ℕ) (r : Rec) → (renamed o n r).list ≡ new_list o n r.id r.list
unfolding renamed new_list renamed_list swap_one
ren_new_list o n r = list_if (eqb r.id 0) r _

pub ren_f_new_list : (o n : ℕ) (r : Rec) → (renamed_f o n r).list ≡ new_list o n r.id r.list
unfolding renamed_f new_list renamed_list swap_one
ren_f_new_list o n r = list_if (eqb r.id 0) r _

same-renamed : (o n : ℕ) → (o ≡ 0 → ⊥) → (r r' : Rec) → Same r r' → Same (renamed o n r) (renamed_f o n r')
same-renamed o n z r r' s = record {
  id = ren_id o n z r ∙ ap (swap_one o n) s.id ∙ sym (ren_f_id o n z r');
  count = ren_count o n z r ∙ s.count ∙ sym (ren_f_count o n z r');
  area = ren_area o n z r ∙ s.area ∙ sym (ren_f_area o n z r');
  visited = ren_visited o n z r ∙ s.visited ∙ sym (ren_f_visited o n z r');
  overlap = ren_overlap o n z r ∙ s.overlap ∙ sym (ren_f_overlap o n z r');
  list = ren_new_list o n r ∙ ap (λ (y : ℕ). new_list o n y r.list) s.id ∙ ap (new_list o n r'.id) s.list ∙ sym (ren_f_new_list o n r');
  cut = ren_cut o n z r ∙ s.cut ∙ sym (ren_f_cut o n z r');
}

join_of : List ℕ → ℕ → List ℕ → ℕ → List ℕ
join_of l i k j = tidy (around l (place l j) ++ around k (place k i))

same-absorbed : (b b' a a' : Rec) → Same b b' → Same a a' → Same (absorbed b a) (absorbed_f b' a')
unfolding absorbed absorbed_f join_of
same-absorbed b b' a a' s t = record {
  id = s.id;
  count = ap (λ (y : ℕ). y + a.count) s.count ∙ ap (λ (y : ℕ). b'.count + y) t.count;
  area = s.area;
  visited = s.visited;
  overlap = s.overlap;
  list = ap (λ (y : List ℕ). join_of y b.id a.list a.id) s.list ∙ ap (λ (y : ℕ). join_of b'.list y a.list a.id) s.id
      ∙ ap (λ (y : List ℕ). join_of b'.list b'.id y a.id) t.list ∙ ap (join_of b'.list b'.id a'.list) t.id;
  cut = ap (λ (y : Bool). y or a.cut) s.cut ∙ ap (λ (y : Bool). b'.cut or y) t.cut;
}

same-emptied : (a a' : Rec) → Same a a' → Same (emptied a) (emptied a')
unfolding emptied
same-emptied a a' s = record { id = s.id; count = refl; area = s.area; visited = s.visited; overlap = s.overlap; list = refl; cut = refl }

-- ---- the records after a merge

pub ren_f_fresh : (o n : ℕ) → renamed_f o n (fresh 0) ≡ fresh 0
unfolding renamed_f fresh when◌then◌else◌
ren_f_fresh o n = refl

module _ (rs : List Rec) (i n : ℕ) (x y : Rec) (hi : i < length rs) (hn : n < length rs) (ne : i ≡ n → ⊥) where
  pub at_i : at (set (set rs n x) i y) i ≡ y
  unfolding at
  at_i = get_or-set_same (set rs n x) i y (fresh 0) (rw (length-set rs n x) hi)

  pub at_n : at (set (set rs n x) i y) n ≡ x
  unfolding at
  at_n = get_or-set_other (set rs n x) i n y (fresh 0) (λ e. ne (sym e)) ∙ get_or-set_same rs n x (fresh 0) hn

  pub at_else : (k : ℕ) → (k ≡ i → ⊥) → (k ≡ n → ⊥) → at (set (set rs n x) i y) k ≡ at rs k
  unfolding at
  at_else k a b = get_or-set_other (set rs n x) i k y (fresh 0) a ∙ get_or-set_other rs n k x (fresh 0) b

-- by cases on the record
pub by_place {κ} : (P : ℕ → Type κ) (i n : ℕ) → P i → P n → ((k : ℕ) → (k ≡ i → ⊥) → (k ≡ n → ⊥) → P k) → (k : ℕ) → P k
by_place P i n a b c k =
    elim (ℕ_discrete k i) [
      | yes e ↦ rw e a
      | no e ↦ elim (ℕ_discrete k n) [ yes f ↦ rw f b | no f ↦ c k e f ]
    ]

half_r : List Rec → ℕ → ℕ → List Rec
half_r rs i n = set (set rs n (absorbed (at rs n) (at rs i))) i (emptied (at rs i))

half_f : List Rec → ℕ → ℕ → List Rec
half_f fs i n = set (set fs n (absorbed_f (at fs n) (at fs i))) i (emptied (at fs i))

pub after_r : List Rec → ℕ → ℕ → List Rec
after_r rs i n = map (renamed i n) (half_r rs i n)

pub after_f : List Rec → ℕ → ℕ → List Rec
after_f fs i n = map (renamed_f i n) (half_f fs i n)

absorbed_floors : (b a : Rec) → (absorbed b a).floors ≡ once_all b.floors a.floors
unfolding absorbed
absorbed_floors b a = refl

absorbed_f_list : (b a : Rec) (v : ℕ) → has (absorbed_f b a).list v ≡ true → (has b.list v ≡ true) ⊎ (has a.list v ≡ true)
unfolding absorbed_f
absorbed_f_list b a v h =
    ⊎_elim (λ (e : has (around b.list (place b.list a.id)) v ≡ true). inl (around-has b.list _ v e))
    (λ (e : has (around a.list (place a.list b.id)) v ≡ true). inr (around-has a.list _ v e))
    (append-has _ _ v (tidy-has _ v h))

emptied-none : (a : Rec) (u : ℕ) → has (emptied a).list u ≡ false
unfolding emptied any
emptied-none a u = refl

module _ (rs fs : List Rec) (A : Alike rs fs) (i n : ℕ) (ri : Rep fs i) (rn : Rep fs n) (ne : i ≡ n → ⊥) where
  i_in : i < length fs
  i_in = live_in fs i (λ z. ri.1 (sym ri.0 ∙ z))

  n_in : n < length fs
  n_in = live_in fs n (λ z. rn.1 (sym rn.0 ∙ z))

  i_in_r : i < length rs
  i_in_r = rw A.size i_in

  n_in_r : n < length rs
  n_in_r = rw A.size n_in

  half_same : (k : ℕ) → Same (at (half_r rs i n) k) (at (half_f fs i n) k)
  unfolding half_r half_f
  half_same = by_place (λ k. Same (at (set (set rs n (absorbed (at rs n) (at rs i))) i (emptied (at rs i))) k) (at (set (set fs n (absorbed_f (at fs n) (at fs i))) i (emptied (at fs i))) k)) i n
      (rw (at_i rs i n _ (emptied (at rs i)) i_in_r n_in_r ne, at_i fs i n _ (emptied (at fs i)) i_in n_in ne) (same-emptied _ _ (A.same i)))
      (rw (at_n rs i n (absorbed (at rs n) (at rs i)) _ i_in_r n_in_r ne, at_n fs i n (absorbed_f (at fs n) (at fs i)) _ i_in n_in ne) (same-absorbed _ _ _ _ (A.same n) (A.same i)))
      (λ k a b. rw (at_else rs i n _ _ i_in_r n_in_r ne k a b, at_else fs i n _ _ i_in n_in ne k a b) (A.same k))

  half_ids : (k : ℕ) → (at (half_f fs i n) k).id ≡ (at fs k).id
  unfolding half_f emptied absorbed_f
  half_ids = by_place (λ k. (at (set (set fs n (absorbed_f (at fs n) (at fs i))) i (emptied (at fs i))) k).id ≡ (at fs k).id) i n
      (ap (λ (r : Rec). r.id) (at_i fs i n _ (emptied (at fs i)) i_in n_in ne))
      (ap (λ (r : Rec). r.id) (at_n fs i n (absorbed_f (at fs n) (at fs i)) _ i_in n_in ne))
      (λ k a b. ap (λ (r : Rec). r.id) (at_else fs i n _ _ i_in n_in ne k a b))

  half_floors : (k : ℕ) → (at (half_f fs i n) k).floors ≡ (at fs k).floors
  unfolding half_f emptied absorbed_f
  half_floors = by_place (λ k. (at (set (set fs n (absorbed_f (at fs n) (at fs i))) i (emptied (at fs i))) k).floors ≡ (at fs k).floors) i n
      (ap (λ (r : Rec). r.floors) (at_i fs i n _ (emptied (at fs i)) i_in n_in ne))
      (ap (λ (r : Rec). r.floors) (at_n fs i n (absorbed_f (at fs n) (at fs i)) _ i_in n_in ne))
      (λ k a b. ap (λ (r : Rec). r.floors) (at_else fs i n _ _ i_in n_in ne k a b))

  after_r_at : (k : ℕ) → at (after_r rs i n) k ≡ renamed i n (at (half_r rs i n) k)
  unfolding after_r
  after_r_at k = at_map (renamed i n) (renamed-fresh i n) (half_r rs i n) k

  after_f_at : (k : ℕ) → at (after_f fs i n) k ≡ renamed_f i n (at (half_f fs i n) k)
  unfolding after_f
  after_f_at k = at_map (renamed_f i n) (ren_f_fresh i n) (half_f fs i n) k

  after_ids : (k : ℕ) → (at (after_f fs i n) k).id ≡ swap_one i n (at fs k).id
  after_ids k = ap (λ (r : Rec). r.id) (after_f_at k) ∙ ren_f_id i n ri.1 _ ∙ ap (swap_one i n) (half_ids k)

  -- live in the rule too
  half_live : (k : ℕ) → ((at fs k).id ≡ 0 → ⊥) → (at (half_r rs i n) k).id ≡ 0 → ⊥
  half_live k h z = h (sym (half_ids k) ∙ sym (half_same k).id ∙ z)

  after-step : Step i n rs fs (after_r rs i n) (after_f fs i n)
  unfolding half_r
  after-step = record {
    old = ri;
    new = rn;
    apart = ne;
    ids = after_ids;
    stay = λ k. ap (λ (r : Rec). r.floors) (after_f_at k) ∙ ren_f_floors i n ri.1 _ ∙ half_floors k;
    rest = λ k r a b. ap (λ (r : Rec). r.floors) (after_r_at k) ∙ ren_floors i n ri.1 _ (half_live k (λ z. r.1 (sym r.0 ∙ z)))
        ∙ ap (λ (q : Rec). swapped i n q.floors) (at_else rs i n _ _ i_in_r n_in_r ne k a b);
    joined = ap (λ (r : Rec). r.floors) (after_r_at n) ∙ ren_floors i n ri.1 _ (half_live n (λ z. rn.1 (sym rn.0 ∙ z)))
        ∙ ap (λ (q : Rec). swapped i n q.floors) (at_n rs i n (absorbed (at rs n) (at rs i)) _ i_in_r n_in_r ne) ∙ ap (swapped i n) (absorbed_floors (at rs n) (at rs i));
  }

  -- who is live afterwards was so before
  was_live : (k : ℕ) → ((at (after_f fs i n) k).id ≡ 0 → ⊥) → (at fs k).id ≡ 0 → ⊥
  was_live k h z = h (after_ids k ∙ swap_other i n (at fs k).id (λ e. ri.1 (sym e ∙ z)) ∙ z)

  half_empty : (at (half_f fs i n) i).count ≡ 0
  unfolding half_f emptied
  half_empty = ap (λ (r : Rec). r.count) (at_i fs i n (absorbed_f (at fs n) (at fs i)) (emptied (at fs i)) i_in n_in ne)

  half_count : (k : ℕ) → (k ≡ i → ⊥) → (k ≡ n → ⊥) → (at (half_f fs i n) k).count ≡ (at fs k).count
  unfolding half_f
  half_count k a b = ap (λ (r : Rec). r.count) (at_else fs i n (absorbed_f (at fs n) (at fs i)) (emptied (at fs i)) i_in n_in ne k a b)

  after_own : (k : ℕ) → ((at (after_f fs i n) k).id ≡ 0 → ⊥) → ((at (after_f fs i n) k).count ≡ 0 → ⊥) → (at (after_f fs i n) k).id ≡ k
  after_own = by_place (λ k. ((at (after_f fs i n) k).id ≡ 0 → ⊥) → ((at (after_f fs i n) k).count ≡ 0 → ⊥) → (at (after_f fs i n) k).id ≡ k) i n
      (λ _ c. absurd (c (ap (λ (r : Rec). r.count) (after_f_at i) ∙ ren_f_count i n ri.1 _ ∙ half_empty)))
      (λ _ _. after_ids n ∙ ap (swap_one i n) rn.0 ∙ swap_other i n n (λ e. ne (sym e)))
      (λ k a b l c.
      let q : (at fs k).id ≡ k = A.reps.own k (was_live k l) (λ z. c (ap (λ (r : Rec). r.count) (after_f_at k) ∙ ren_f_count i n ri.1 _ ∙ half_count k a b ∙ z)) in
      after_ids k ∙ ap (swap_one i n) q ∙ swap_other i n k a)

  half_list : (x : ℕ) → ((at fs x).id ≡ 0 → ⊥) → (u : ℕ) → has (at (half_f fs i n) x).list u ≡ true → (y : ℕ) × ((at fs y).id ≡ 0 → ⊥) × (has (at fs y).list u ≡ true)
  unfolding half_f
  half_list = by_place (λ x. ((at fs x).id ≡ 0 → ⊥) → (u : ℕ) → has (at (set (set fs n (absorbed_f (at fs n) (at fs i))) i (emptied (at fs i))) x).list u ≡ true → (y : ℕ) × ((at fs y).id ≡ 0 → ⊥) × (has (at fs y).list u ≡ true)) i n
      (λ _ u h. absurd (false≢true (sym (emptied-none (at fs i) u) ∙ (rw (at_i fs i n (absorbed_f (at fs n) (at fs i)) (emptied (at fs i)) i_in n_in ne) at h))))
      (λ l u h.
      ⊎_elim (λ (e : has (at fs n).list u ≡ true). (n, l, e)) (λ (e : has (at fs i).list u ≡ true). (i, (λ z. ri.1 (sym ri.0 ∙ z)), e))
      (absorbed_f_list (at fs n) (at fs i) u (rw (at_n fs i n (absorbed_f (at fs n) (at fs i)) (emptied (at fs i)) i_in n_in ne) at h)))
      (λ k a b l u h. (k, l, rw (at_else fs i n (absorbed_f (at fs n) (at fs i)) (emptied (at fs i)) i_in n_in ne k a b) at h))

  after-listed : (x : ℕ) → ((at (after_f fs i n) x).id ≡ 0 → ⊥) → (r : ℕ) → has (at (after_f fs i n) x).list r ≡ true → flagged r ≡ false
      → ((at (after_f fs i n) r).id ≡ 0 → ⊥) → (at (after_f fs i n) r).id ≡ r
  unfolding Was
  after-listed x l r h f lr =
      let w = ren_f_list i n ri.1 (at (half_f fs i n) x) (λ z. was_live x l (sym (half_ids x) ∙ z)) r (rw (after_f_at x) at h) in
      let y = half_list x (was_live x l) w.0 w.1 in
      elim (ℕ_discrete w.0 i) [
        | yes e ↦
            let q : r ≡ n = sym w.2 ∙ ap (swap_one i n) e ∙ swap_old i n in
            rw q (after_ids n ∙ ap (swap_one i n) rn.0 ∙ swap_other i n n (λ e. ne (sym e)))
        | no e ↦
            let q : w.0 ≡ r = sym (swap_other i n w.0 e) ∙ w.2 in
            let g : (at fs r).id ≡ r = A.reps.listed y.0 y.1 r (ap (λ (v : ℕ). has (at fs y.0).list v) (sym q) ∙ y.2) f (was_live r lr) in
            after_ids r ∙ ap (swap_one i n) g ∙ swap_other i n r (λ z. e (q ∙ z))
      ]

  after_size : length (after_r rs i n) ≡ length (after_f fs i n)
  unfolding after_r after_f half_r half_f
  after_size =
      length-map (set (set rs n (absorbed (at rs n) (at rs i))) i (emptied (at rs i))) (renamed i n) ∙ length-set (set rs n (absorbed (at rs n) (at rs i))) i (emptied (at rs i)) ∙ length-set rs n (absorbed (at rs n) (at rs i)) ∙ A.size
      ∙ sym (length-map (set (set fs n (absorbed_f (at fs n) (at fs i))) i (emptied (at fs i))) (renamed_f i n) ∙ length-set (set fs n (absorbed_f (at fs n) (at fs i))) i (emptied (at fs i)) ∙ length-set fs n (absorbed_f (at fs n) (at fs i)))

  -- one merge keeps the two alike
  pub after_alike : Alike (after_r rs i n) (after_f fs i n)
  after_alike = record {
    size = after_size;
    same = λ k. rw (after_r_at k, after_f_at k) (same-renamed i n ri.1 _ _ (half_same k));
    floors = floors_step i n rs fs (after_r rs i n) (after_f fs i n) after-step A.floors;
    reps = record { own = after_own; listed = after-listed };
  }

-- ---- one record of a round

Chosen : List Rec → ℕ → Pick → Type 0
Chosen fs i p = (p.id ≡ i) ⊎ Rep fs p.id

chosen_rep : (fs : List Rec) (r : ℕ) → (at fs r).id ≡ r → ((at fs r).id ≡ 0 → ⊥) → Rep fs (at fs r).id
chosen_rep fs r e z = (ap (λ (y : ℕ). (at fs y).id) e, z)

pick_chosen : (fs : List Rec) (i r : ℕ) (p : Pick) → (flagged r ≡ false → ((at fs r).id ≡ 0 → ⊥) → (at fs r).id ≡ r) → Chosen fs i p → Chosen fs i (pick_one fs (at fs i) r (at fs r) p)
unfolding pick_one better Chosen
pick_chosen fs i r p h c =
    if-ind (λ (q : Pick). (q.id ≡ i) ⊎ Rep fs q.id) (flagged r) (λ _. c)
    (λ f. if-ind (λ (q : Pick). (q.id ≡ i) ⊎ Rep fs q.id) _
    (λ t.
    let z : (at fs r).id ≡ 0 → ⊥ = eqb-false _ _ (not-true _ (both _ _ (both _ _ (both _ _ (both _ _ t).0).0).0).0) in
    inr (chosen_rep fs r (h f z) z))
    (λ _. c))

picked-chosen : (fs : List Rec) (i : ℕ) (l : List ℕ) → ((r : ℕ) → has l r ≡ true → flagged r ≡ false → ((at fs r).id ≡ 0 → ⊥) → (at fs r).id ≡ r)
    → (p : Pick) → Chosen fs i p → Chosen fs i (picked_f fs (at fs i) l p)
unfolding picked_f
picked-chosen fs i [] h p c = c
picked-chosen fs i (r ∷ l) h p c =
    picked-chosen fs i l (λ q w. h q (has_later r l q w)) (pick_one fs (at fs i) r (at fs r) p) (pick_chosen fs i r p (h r (has_first r l r refl)) c)

-- whether nothing is merged
pub cond_of : ℕ → ℕ → ℕ → ℕ → Bool → Bool → Bool → Bool → Bool
cond_of area id count pid over lone there back = eqb id 0 or over or eqb count 0 or (ltb area count and lone) or eqb pid id or not (there and back)

cond_dead : (area id count pid : ℕ) (o z t b : Bool) → id ≡ 0 → cond_of area id count pid o z t b ≡ true
unfolding cond_of ◌or◌
cond_dead area id count pid o z t b e = rw (eq-eqb id 0 e)

cond_empty : (area id count pid : ℕ) (o z t b : Bool) → count ≡ 0 → cond_of area id count pid o z t b ≡ true
unfolding cond_of
cond_empty area id count pid o z t b e =
    or_left _ _ (or_left _ _ (or_left _ _ (or_right (eqb id 0 or o) (eqb count 0) (eq-eqb count 0 e))))

pub cond_other : (area id count pid : ℕ) (o z t b : Bool) → cond_of area id count pid o z t b ≡ false → pid ≡ id → ⊥
unfolding cond_of
cond_other area id count pid o z t b e = eqb-false pid id (neither _ _ (neither _ _ e).0).1

pub record Both (g h : Merge) : Type 0 where
  pub recs : Alike g.recs h.recs
  pub merges : g.merges ≡ h.merges

both_if : (c d : Bool) (g h x y : Merge) → c ≡ d → Both g h → (d ≡ false → Both x y) → Both (when c then g else x) (when d then h else y)
unfolding when◌then◌else◌
both_if c true g h x y e b f = rw e b
both_if c false g h x y e b f = rw e (f refl)

cond_eq : (area i i' c c' p p' : ℕ) (o o' z z' t t' b b' : Bool) → i ≡ i' → c ≡ c' → p ≡ p' → o ≡ o' → z ≡ z' → t ≡ t' → b ≡ b'
    → cond_of area i c p o z t b ≡ cond_of area i' c' p' o' z' t' b'
cond_eq area i i' c c' p p' o o' z z' t t' b b' a₁ a₂ a₃ a₄ a₅ a₆ a₇ = rw (a₁, a₂, a₃, a₄, a₅, a₆, a₇) refl

unfoldable pub first_pick : ℕ → Pick
first_pick i = record { size = 65536; id = i }

pick_r : List Rec → ℕ → Pick
pick_r rs i = picked rs (at rs i) (at rs i).list (first_pick (at rs i).id)

unfoldable pub pick_f : List Rec → ℕ → Pick
pick_f fs i = picked_f fs (at fs i) (at fs i).list (first_pick (at fs i).id)

pub cond_r : ℕ → List Rec → ℕ → Pick → Bool
cond_r area rs i p =
    cond_of area (at rs i).id (at rs i).count p.id (at rs i).overlap (has (at rs i).list 0) (has (at rs p.id).list (at rs i).id) (has (at rs i).list (at rs p.id).id)

done_r : List Rec → ℕ → ℕ → ℕ → List Rec
done_r rs i o n = map (renamed o n) (set (set rs n (absorbed (at rs n) (at rs i))) i (emptied (at rs i)))

one_r : (area i : ℕ) (g : Merge) → merge_one area i g ≡ (when cond_r area g.recs i (pick_r g.recs i) then g else record { recs = done_r g.recs i (at g.recs i).id (pick_r g.recs i).id; merges = suc g.merges })
unfolding merge_one cond_r cond_of pick_r done_r first_pick
one_r area i g = refl

pub one_f : (area i : ℕ) (g : Merge) → merge_one_f area i g ≡ (when cond_r area g.recs i (pick_f g.recs i) then g else record { recs = merged_pair g.recs i (at g.recs i).id (pick_f g.recs i).id; merges = suc g.merges })
unfolding merge_one_f cond_r cond_of pick_f merged_pair first_pick
one_f area i g = refl

module _ (area i : ℕ) (rs fs : List Rec) (A : Alike rs fs) where
  pick_same : Rep fs i → pick_r rs i ≡ pick_f fs i
  unfolding pick_r pick_f
  pick_same r =
      ap (λ (l : List ℕ). picked rs (at rs i) l (first_pick (at rs i).id)) (A.same i).list
      ∙ ap (λ (y : ℕ). picked rs (at rs i) (at fs i).list (first_pick y)) (A.same i).id
      ∙ picked-agrees rs fs A i r (at fs i).list (λ q w f z. A.reps.listed i (λ e. r.1 (sym r.0 ∙ e)) q w f z) (first_pick (at fs i).id)

  cond_same : (p p' : Pick) → p ≡ p' → cond_r area rs i p ≡ cond_r area fs i p'
  unfolding cond_r
  cond_same p p' e =
      let a = A.same i in
      let q : p.id ≡ p'.id = ap (λ (y : Pick). y.id) e in
      cond_eq area _ _ _ _ _ _ _ _ _ _ _ _ _ _ a.id a.count q a.overlap (ap (λ (l : List ℕ). has l 0) a.list)
      (ap (λ (y : ℕ). has (at rs y).list (at rs i).id) q ∙ ap (λ (l : List ℕ). has l (at rs i).id) (A.same p'.id).list ∙ ap (λ (y : ℕ). has (at fs p'.id).list y) a.id)
      (ap (λ (y : ℕ). has (at rs i).list (at rs y).id) q ∙ ap (λ (l : List ℕ). has l (at rs p'.id).id) a.list ∙ ap (λ (y : ℕ). has (at fs i).list y) (A.same p'.id).id)

  cond_none : ((at fs i).id ≡ 0) ⊎ ((at fs i).count ≡ 0) → (p p' : Pick) → (cond_r area rs i p ≡ cond_r area fs i p') × (cond_r area fs i p' ≡ true)
  unfolding cond_r
  cond_none n p p' =
      ⊎_elim (λ (e : (at fs i).id ≡ 0).
      let b = cond_dead area (at fs i).id (at fs i).count p'.id (at fs i).overlap (has (at fs i).list 0) (has (at fs p'.id).list (at fs i).id) (has (at fs i).list (at fs p'.id).id) e in
      (cond_dead area (at rs i).id _ _ _ _ _ _ ((A.same i).id ∙ e) ∙ sym b, b))
      (λ (e : (at fs i).count ≡ 0).
      let b = cond_empty area (at fs i).id (at fs i).count p'.id (at fs i).overlap (has (at fs i).list 0) (has (at fs p'.id).list (at fs i).id) (has (at fs i).list (at fs p'.id).id) e in
      (cond_empty area _ (at rs i).count _ _ _ _ _ ((A.same i).count ∙ e) ∙ sym b, b))
      n

  not_same : (p : Pick) → cond_r area fs i p ≡ false → p.id ≡ (at fs i).id → ⊥
  unfolding cond_r
  not_same p e = cond_other area _ _ p.id _ _ _ _ e

done_r_is : (rs : List Rec) (i o n n' : ℕ) → o ≡ i → n ≡ n' → done_r rs i o n ≡ after_r rs i n'
unfolding done_r after_r half_r
done_r_is rs i o n n' e f = ap (λ (y : ℕ). done_r rs i y n) e ∙ ap (λ (y : ℕ). done_r rs i i y) f

pair_is : (fs : List Rec) (i o n : ℕ) → o ≡ i → merged_pair fs i o n ≡ after_f fs i n
unfolding merged_pair after_f half_f
pair_is fs i o n e = ap (λ (y : ℕ). merged_pair fs i y n) e

first-chosen : (fs : List Rec) (i : ℕ) → Rep fs i → Chosen fs i (first_pick (at fs i).id)
unfolding Chosen first_pick
first-chosen fs i r = inl r.0

pub pick_rep : (fs : List Rec) (i : ℕ) → Reps fs → Rep fs i → ((pick_f fs i).id ≡ (at fs i).id → ⊥) → Rep fs (pick_f fs i).id
unfolding pick_f Chosen
pick_rep fs i R r n =
    ⊎_elim (λ (e : (picked_f fs (at fs i) (at fs i).list (first_pick (at fs i).id)).id ≡ i). absurd (n (e ∙ sym r.0))) (λ (e : Rep fs (picked_f fs (at fs i) (at fs i).list (first_pick (at fs i).id)).id). e)
    (picked-chosen fs i (at fs i).list (λ q w f z. R.listed i (λ e. r.1 (sym r.0 ∙ e)) q w f z) (first_pick (at fs i).id) (first-chosen fs i r))

module _ (area i : ℕ) (g h : Merge) (B : Both g h) where
  one_none : ((at h.recs i).id ≡ 0) ⊎ ((at h.recs i).count ≡ 0) → Both (merge_one area i g) (merge_one_f area i h)
  one_none n =
      let c = cond_none area i g.recs h.recs B.recs n (pick_r g.recs i) (pick_f h.recs i) in
      rw (one_r area i g, one_f area i h) (both_if _ _ g h _ _ c.0 B (λ f. absurd (true≢false (sym c.1 ∙ f))))

  one_some : Rep h.recs i → Both (merge_one area i g) (merge_one_f area i h)
  one_some r =
      let p = pick_same area i g.recs h.recs B.recs r in
      let q : (pick_r g.recs i).id ≡ (pick_f h.recs i).id = ap (λ (y : Pick). y.id) p in
      rw (one_r area i g, one_f area i h) (both_if _ _ g h _ _ (cond_same area i g.recs h.recs B.recs (pick_r g.recs i) (pick_f h.recs i) p) B
      (λ f.
      let n = not_same area i g.recs h.recs B.recs (pick_f h.recs i) f in
      let rn = pick_rep h.recs i B.recs.reps r n in
      let a = after_alike g.recs h.recs B.recs i (pick_f h.recs i).id r rn (λ e. n (sym e ∙ sym r.0)) in
      record {
        recs = rw (done_r_is g.recs i (at g.recs i).id (pick_r g.recs i).id (pick_f h.recs i).id ((B.recs.same i).id ∙ r.0) q, pair_is h.recs i (at h.recs i).id (pick_f h.recs i).id r.0) a;
        merges = ap suc B.merges;
      }))

  pub one_alike : Both (merge_one area i g) (merge_one_f area i h)
  one_alike =
      elim (ℕ_discrete (at h.recs i).id 0) [
        | yes e ↦ one_none (inl e)
        | no e ↦ elim (ℕ_discrete (at h.recs i).count 0) [
          | yes f ↦ one_none (inr f)
          | no f ↦ let q = B.recs.reps.own i e f in one_some (q, λ z. e (q ∙ z))
        ]
      ]

pub round_alike : (area n : ℕ) (g h : Merge) → Both g h → Both (upto n (merge_one area) g) (upto n (merge_one_f area) h)
unfolding upto
round_alike area zero g h B = B
round_alike area (suc n) g h B = one_alike area n (upto n (merge_one area) g) (upto n (merge_one_f area) h) (round_alike area n g h B)

alike_if : (c d : Bool) (a b x y : List Rec) → c ≡ d → Alike a b → Alike x y → Alike (when c then a else x) (when d then b else y)
unfolding when◌then◌else◌
alike_if c true a b x y e p q = rw e p
alike_if c false a b x y e p q = rw e q

-- the merge, whatever the fuel
pub merged_alike : (area k : ℕ) (rs fs : List Rec) → Alike rs fs → Alike (merged area k rs) (merged_f area k fs)
unfolding merged merged_f
merged_alike area zero rs fs A = A
merged_alike area (suc k) rs fs A =
    let B : Both (upto (length rs) (merge_one area) (record { recs = rs; merges = 0 })) (upto (length fs) (merge_one_f area) (record { recs = fs; merges = 0 })) =
    rw A.size (round_alike area (length fs) (record { recs = rs; merges = 0 }) (record { recs = fs; merges = 0 }) (record { recs = A; merges = refl })) in
    alike_if _ _ rs fs _ _ (ap (λ (y : ℕ). eqb y 0) B.merges) A (merged_alike area k _ _ B.recs)

-- ---- what the numbering reads is the same

lives_same : (rs fs : List Rec) → length rs ≡ length fs → ((x : ℕ) → Same (at rs x) (at fs x)) → (l : List ℕ) → live rs l ≡ live fs l
unfolding live at
lives_same [] [] n s l = refl
lives_same [] (f ∷ fs) n s l = absurd (omega arith)
lives_same (r ∷ rs) [] n s l = absurd (omega arith)
lives_same (r ∷ rs) (f ∷ fs) n s l =
    ap (λ (y : ℕ). live rs (when eqb y 0 then l else once l y)) (s 0).id ∙ lives_same rs fs (omega arith) (λ x. s (suc x)) (when eqb f.id 0 then l else once l f.id)

overs_same : (rs fs : List Rec) → length rs ≡ length fs → ((x : ℕ) → Same (at rs x) (at fs x)) → overlaps rs ≡ overlaps fs
unfolding overlaps at
overs_same [] [] n s = refl
overs_same [] (f ∷ fs) n s = absurd (omega arith)
overs_same (r ∷ rs) [] n s = absurd (omega arith)
overs_same (r ∷ rs) (f ∷ fs) n s =
    ap (λ (b : Bool). when b then suc (overlaps rs) else overlaps rs) (s 0).overlap ∙ ap (λ (y : ℕ). when f.overlap then suc y else y) (overs_same rs fs (omega arith) (λ x. s (suc x)))

cuts-same : (rs fs : List Rec) → length rs ≡ length fs → ((x : ℕ) → Same (at rs x) (at fs x)) → cuts rs ≡ cuts fs
unfolding cuts at
cuts-same [] [] n s = refl
cuts-same [] (f ∷ fs) n s = absurd (omega arith)
cuts-same (r ∷ rs) [] n s = absurd (omega arith)
cuts-same (r ∷ rs) (f ∷ fs) n s =
    ap (λ (b : Bool). when b then suc (cuts rs) else cuts rs) (s 0).cut ∙ ap (λ (y : ℕ). when f.cut then suc y else y) (cuts-same rs fs (omega arith) (λ x. s (suc x)))

pub numbered_alike : (rs fs : List Rec) → Alike rs fs → (ids : List ℕ) → numbered rs ids ≡ numbered fs ids
unfolding numbered
numbered_alike rs fs A ids =
    let l = lives_same rs fs A.size A.same [] in
    regions_eq _ _ _ _ _ _ _ _ (map_same _ _ ids (λ r. ap (λ (q : List ℕ). when flagged r then r else number_of q (at rs r).id) l ∙ ap (λ (y : ℕ). when flagged r then r else number_of (live fs []) y) (A.same r).id))
    (ap length l) (overs_same rs fs A.size A.same) (cuts-same rs fs A.size A.same)

-- ---- at the start: live records bear their own numbers
pub record Fresh (rs : List Rec) : Type 0 where
  pub own : (x : ℕ) → ((at rs x).id ≡ 0 → ⊥) → (at rs x).id ≡ x

pub alike_start : (rs : List Rec) → Fresh rs → Alike rs rs
alike_start rs f = record {
  size = refl;
  same = λ x. record { id = refl; count = refl; area = refl; visited = refl; overlap = refl; list = refl; cut = refl };
  floors = floors_start_lem rs f.own;
  reps = record { own = λ x l _. f.own x l; listed = λ x _ r _ _ z. f.own r z };
}

-- the merge with floors that stay, and then the numbering, is the rule's
pub merge_is : (area k : ℕ) (rs : List Rec) → Fresh rs → (ids : List ℕ) → numbered (merged area k rs) ids ≡ numbered (merged_f area k rs) ids
merge_is area k rs f ids = numbered_alike _ _ (merged_alike area k rs rs (alike_start rs f)) ids

-- ---- the rounds end: at each merge one record fewer bears its own number

own_one : List Rec → ℕ → ℕ
own_one fs x = when eqb (at fs x).id x and not (eqb x 0) then 1 else 0

pub owners : ℕ → List Rec → ℕ
owners zero fs = 0
owners (suc k) fs = own_one fs k + owners k fs

own_yes : (fs : List Rec) (x : ℕ) → Rep fs x → own_one fs x ≡ 1
unfolding own_one when◌then◌else◌ ◌and◌
own_yes fs x r = rw (eq-eqb (at fs x).id x r.0, ne_eqb x 0 r.1) refl

own_no : (fs : List Rec) (x : ℕ) → ((at fs x).id ≡ x → ⊥) → own_one fs x ≡ 0
unfolding own_one when◌then◌else◌ ◌and◌
own_no fs x n = rw (ne_eqb (at fs x).id x n) refl

own_le : (fs fs' : List Rec) (x : ℕ) → (Rep fs' x → Rep fs x) → own_one fs' x ≤ own_one fs x
unfolding own_one
own_le fs fs' x f =
    if-ind (λ (y : ℕ). y ≤ own_one fs x) _
    (λ t.
    let b = both _ _ t in
    let r = f (eqb-true _ _ b.0, eqb-false _ _ (not-true _ b.1)) in
    omega (arith, own_yes fs x r))
    (λ _. omega arith)

owners_le : (fs fs' : List Rec) → ((x : ℕ) → Rep fs' x → Rep fs x) → (k : ℕ) → owners k fs' ≤ owners k fs
unfolding owners
owners_le fs fs' f zero = omega arith
owners_le fs fs' f (suc k) = omega (arith, own_le fs fs' k (f k), owners_le fs fs' f k)

owners_less : (fs fs' : List Rec) → ((x : ℕ) → Rep fs' x → Rep fs x) → (i : ℕ) → Rep fs i → ((at fs' i).id ≡ i → ⊥) → (k : ℕ) → i < k → owners k fs' + 1 ≤ owners k fs
unfolding owners
owners_less fs fs' f i r n zero h = absurd (omega arith)
owners_less fs fs' f i r n (suc k) h =
    elim (ℕ_discrete k i) [
      | yes e ↦
          let a : own_one fs' k ≡ 0 = rw e (own_no fs' i n) in
          let b : own_one fs k ≡ 1 = rw e (own_yes fs i r) in
          omega (arith, owners_le fs fs' f k)
      | no e ↦ omega (arith, own_le fs fs' k (f k), owners_less fs fs' f i r n k (omega arith))
    ]

module _ (rs fs : List Rec) (A : Alike rs fs) (i n : ℕ) (ri : Rep fs i) (rn : Rep fs n) (ne : i ≡ n → ⊥) where
  after_rep : (x : ℕ) → Rep (after_f fs i n) x → Rep fs x
  after_rep x r =
      elim (ℕ_discrete (at fs x).id i) [
        | yes e ↦
            let q : n ≡ x = sym (swap_old i n) ∙ ap (swap_one i n) (sym e) ∙ sym (after_ids rs fs A i n ri rn ne x) ∙ r.0 in
            rw (← q) rn
        | no e ↦ (sym (swap_other i n (at fs x).id e) ∙ sym (after_ids rs fs A i n ri rn ne x) ∙ r.0, r.1)
      ]

  after_less : (k : ℕ) → i < k → owners k (after_f fs i n) + 1 ≤ owners k fs
  after_less k h =
      owners_less fs (after_f fs i n) after_rep i ri
      (λ e. ne (sym e ∙ after_ids rs fs A i n ri rn ne i ∙ ap (swap_one i n) ri.0 ∙ swap_old i n)) k h

module _ (area i k : ℕ) (g h : Merge) (B : Both g h) (l : i < k) where
  fall_if : (c : Bool) (x : Merge) → (c ≡ false → owners k x.recs + x.merges ≤ owners k h.recs + h.merges)
      → owners k (when c then h else x).recs + (when c then h else x).merges ≤ owners k h.recs + h.merges
  fall_if c x f = if-ind (λ (y : Merge). owners k y.recs + y.merges ≤ owners k h.recs + h.merges) c (λ _. omega arith) f

  fall_some : Rep h.recs i → owners k (merge_one_f area i h).recs + (merge_one_f area i h).merges ≤ owners k h.recs + h.merges
  fall_some r =
      rw (one_f area i h) (fall_if _ _ (λ f.
      let n = not_same area i g.recs h.recs B.recs (pick_f h.recs i) f in
      let rn = pick_rep h.recs i B.recs.reps r n in
      let a = after_less g.recs h.recs B.recs i (pick_f h.recs i).id r rn (λ e. n (sym e ∙ sym r.0)) k l in
      let d : owners k (merged_pair h.recs i (at h.recs i).id (pick_f h.recs i).id) ≡ owners k (after_f h.recs i (pick_f h.recs i).id) = ap (owners k) (pair_is h.recs i (at h.recs i).id (pick_f h.recs i).id r.0) in
      omega arith))

  fall_none : ((at h.recs i).id ≡ 0) ⊎ ((at h.recs i).count ≡ 0) → owners k (merge_one_f area i h).recs + (merge_one_f area i h).merges ≤ owners k h.recs + h.merges
  fall_none n =
      let c = cond_none area i g.recs h.recs B.recs n (pick_r g.recs i) (pick_f h.recs i) in
      rw (one_f area i h) (fall_if _ _ (λ f. absurd (true≢false (sym c.1 ∙ f))))

  pub one_falls : owners k (merge_one_f area i h).recs + (merge_one_f area i h).merges ≤ owners k h.recs + h.merges
  one_falls =
      elim (ℕ_discrete (at h.recs i).id 0) [
        | yes e ↦ fall_none (inl e)
        | no e ↦ elim (ℕ_discrete (at h.recs i).count 0) [
          | yes f ↦ fall_none (inr f)
          | no f ↦ let q = B.recs.reps.own i e f in fall_some (q, λ z. e (q ∙ z))
        ]
      ]

pub round_falls : (area k n : ℕ) (g h : Merge) → Both g h → n ≤ k
    → owners k (upto n (merge_one_f area) h).recs + (upto n (merge_one_f area) h).merges ≤ owners k h.recs + h.merges
unfolding upto
round_falls area k zero g h B l = omega arith
round_falls area k (suc n) g h B l =
    omega (arith, one_falls area n k (upto n (merge_one area) g) (upto n (merge_one_f area) h) (round_alike area n g h B) (omega arith), round_falls area k n g h B (omega arith))

own_most : (fs : List Rec) (x : ℕ) → own_one fs x ≤ 1
unfolding own_one
own_most fs x = if-ind (λ (y : ℕ). y ≤ 1) _ (λ _. omega arith) (λ _. omega arith)

pub owners_most : (k : ℕ) (fs : List Rec) → owners k fs ≤ k
unfolding owners
owners_most zero fs = omega arith
owners_most (suc k) fs = omega (arith, own_most fs k, owners_most k fs)
