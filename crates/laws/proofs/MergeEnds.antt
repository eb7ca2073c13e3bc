-- The merge's fuel is never seen: it comes to a round that merges nothing, since each merge leaves one record fewer that has spans. The absorber had spans
-- before: a live id is the number of a live record, and a live record without spans lists nothing, while the absorber lists the record.
use Prim.Native.Nat.{ℕ, zero, suc, ◌+◌, ◌≤◌, ◌<◌}
use native.Mathlib.Omega.{arith}
use mathlib.Core.Path.{◌≡◌, refl, sym, ap, ◌∙◌}
use mathlib.Core.Bool.{Bool, true, false, not, false≢true}
use mathlib.Core.List.{List, [], ◌∷◌, map}
use lib.ListN.{length, get_or, set, get_or-map, length-set}
use lib.Dec.{eqb}
use borrow.Author.Tests.{eqb-true, eqb-false, ne_eqb, not-true, not-false}
use Rattle.rules.specs.Base.{when◌then◌else◌, any, upto}
use Rattle.rules.specs.Field.{Field}
use Rattle.rules.specs.Records.{Rec, fresh, at, has, records}
use Rattle.rules.specs.Filter.{filtered}
use Rattle.rules.specs.Merge.{Pick, picked, absorbed, emptied, renamed, Merge, merge_one, merged}
use Rattle.laws.proofs.Basics.{both, neither, if-ind, upto-ind, store_cases, tally, tally_le, tally-set, tally-over, tally-map}
use Rattle.laws.proofs.LiveRecords.{live_in, filtered_born}

abbrev pub Live : List Rec → ℕ → Type 0
Live rs x = (at rs x).id ≡ 0 → ⊥

-- what every merge keeps
pub record Ready (rs : List Rec) : Type 0 where
  pub named : (x : ℕ) → Live rs x → Live rs (at rs x).id
  pub bare : (x : ℕ) → Live rs x → (at rs x).count ≡ 0 → (at rs x).list ≡ []

unfoldable pub spanned : Rec → Bool
spanned r = not (eqb r.count 0)

pub spanned_yes : (r : Rec) → (r.count ≡ 0 → ⊥) → spanned r ≡ true
unfolding spanned
spanned_yes r h = rw (ne_eqb r.count 0 h)

emptied-bare : (r : Rec) → spanned (emptied r) ≡ false
unfolding spanned emptied
emptied-bare r = refl

-- ---------------------------------------------------------------- the absorber

-- what is picked is the id of a live record, or the own id, with which the picking begins
pub picked-live : (rs : List Rec) (a : Rec) → ((x : ℕ) → Live rs x → Live rs (at rs x).id) → (start : ℕ) (l : List ℕ) (p : Pick)
    → ((p.id ≡ start → ⊥) → (p.id ≡ 0 → ⊥) × Live rs p.id)
    → ((picked rs a l p).id ≡ start → ⊥) → ((picked rs a l p).id ≡ 0 → ⊥) × Live rs (picked rs a l p).id
unfolding picked
picked-live rs a named start [] p h = h
picked-live rs a named start (r ∷ l) p h =
    picked-live rs a named start l _ (if-ind (λ (q : Pick). (q.id ≡ start → ⊥) → (q.id ≡ 0 → ⊥) × Live rs q.id) _
    (λ e _.
    let z : Live rs r = eqb-false _ _ (not-true _ (both _ _ (both _ _ (both _ _ (both _ _ (both _ _ e).0).0).0).0).1) in
    (z, named r z))
    (λ _. h))

pub has-none : (l : List ℕ) (r : ℕ) → has l r ≡ true → l ≡ [] → ⊥
unfolding any
has-none [] r h e = false≢true h
has-none (x ∷ l) r h e = let z : ◌≡◌ {A = ℕ} (suc (length l)) 0 = ap length e in omega arith

-- ---------------------------------------------------------------- renaming

renamed_id : (P : ℕ → Type 0) (o n : ℕ) (r : Rec) → P r.id → ((r.id ≡ 0 → ⊥) → P n) → P (renamed o n r).id
unfolding renamed
renamed_id P o n r p q =
    if-ind (λ (z : Rec). P z.id) (eqb r.id 0) (λ _. p) (λ e. if-ind P (eqb r.id o) (λ _. q (eqb-false _ _ e)) (λ _. p))

pub renamed_count : (o n : ℕ) (r : Rec) → (renamed o n r).count ≡ r.count
unfolding renamed
renamed_count o n r = if-ind (λ (z : Rec). z.count ≡ r.count) (eqb r.id 0) (λ _. refl) (λ _. refl)

renamed_spanned : (o n : ℕ) (r : Rec) → spanned (renamed o n r) ≡ spanned r
unfolding spanned
renamed_spanned o n r = rw (renamed_count o n r)

-- a list with nothing in it is left alone
renamed-bare : (o n : ℕ) (r : Rec) → r.list ≡ [] → (renamed o n r).list ≡ []
unfolding renamed
renamed-bare o n r e =
    if-ind (λ (z : Rec). z.list ≡ []) (eqb r.id 0) (λ _. e)
    (λ _. if-ind (λ (l : List ℕ). l ≡ []) (has r.list o) (λ h. absurd (has-none r.list o h e)) (λ _. e))

pub renamed-fresh : (o n : ℕ) → renamed o n (fresh 0) ≡ fresh 0
unfolding renamed fresh when◌then◌else◌
renamed-fresh o n = refl

pub at_map : (f : Rec → Rec) → f (fresh 0) ≡ fresh 0 → (rs : List Rec) (x : ℕ) → at (map f rs) x ≡ f (at rs x)
unfolding at
at_map f e rs x = ap (get_or (map f rs) x) (sym e) ∙ get_or-map f rs x (fresh 0)

at_renamed : (o n : ℕ) (rs : List Rec) (x : ℕ) → at (map (renamed o n) rs) x ≡ renamed o n (at rs x)
at_renamed o n rs x = at_map (renamed o n) (renamed-fresh o n) rs x

-- ---------------------------------------------------------------- one merge: n absorbs i, whose id o becomes n

half : List Rec → ℕ → ℕ → List Rec
half rs i n = set (set rs n (absorbed (at rs n) (at rs i))) i (emptied (at rs i))

module _ (rs : List Rec) (i o n : ℕ) where
  half_id : (x : ℕ) → (at (half rs i n) x).id ≡ (at rs x).id
  unfolding half at absorbed emptied
  half_id x =
      store_cases (set rs n _) i _ (fresh 0) x (λ (r : Rec). r.id ≡ (at rs x).id) (λ e. ap (λ (y : ℕ). (at rs y).id) (sym e))
      (store_cases rs n _ (fresh 0) x (λ (r : Rec). r.id ≡ (at rs x).id) (λ e. ap (λ (y : ℕ). (at rs y).id) (sym e)) refl)

  half_bare : ((at rs i).count ≡ 0 → ⊥) → (x : ℕ) → ((at rs x).count ≡ 0 → (at rs x).list ≡ []) → (at (half rs i n) x).count ≡ 0 → (at (half rs i n) x).list ≡ []
  unfolding half at absorbed emptied
  half_bare c x h =
      store_cases (set rs n _) i _ (fresh 0) x (λ (r : Rec). r.count ≡ 0 → r.list ≡ []) (λ _ _. refl)
      (store_cases rs n _ (fresh 0) x (λ (r : Rec). r.count ≡ 0 → r.list ≡ []) (λ _ e. absurd (c (omega arith))) h)

  after : List Rec
  after = map (renamed o n) (half rs i n)

  after_id : (P : ℕ → Type 0) (x : ℕ) → P (at rs x).id → (Live rs x → P n) → P (at after x).id
  unfolding after
  after_id P x p q = rw (at_renamed o n (half rs i n) x) (renamed_id P o n (at (half rs i n) x) (rw (half_id x) p) (λ h. q (rw (half_id x) at h)))

  module _ (R : Ready rs) (z : n ≡ 0 → ⊥) (l : Live rs n) (c : (at rs i).count ≡ 0 → ⊥) where
    live_on : (x : ℕ) → Live rs x → Live after x
    live_on x h = after_id (λ y. y ≡ 0 → ⊥) x h (λ _. z)

    live_back : (x : ℕ) → Live after x → Live rs x
    live_back x = after_id (λ y. (y ≡ 0 → ⊥) → Live rs x) x (λ h. h) (λ h _. h)

    after-bare : (x : ℕ) → Live after x → (at after x).count ≡ 0 → (at after x).list ≡ []
    unfolding after
    after-bare x h =
        rw (at_renamed o n (half rs i n) x)
        (λ e. renamed-bare o n _ (half_bare c x (R.bare x (live_back x h)) (sym (renamed_count o n _) ∙ e)))

    after_ready : Ready after
    after_ready = record {
      named = λ x h. live_on _ (after_id (Live rs) x (R.named x (live_back x h)) (λ _. l));
      bare = after-bare;
    }

    after-tally : Live rs i → ((at rs n).count ≡ 0 → ⊥) → suc (tally spanned after) ≤ tally spanned rs
    unfolding after half at absorbed
    after-tally li d =
        let first = tally-over spanned rs n (absorbed (at rs n) (at rs i)) (fresh 0) (live_in rs n l) (spanned_yes (at rs n) d) in
        let there : spanned (at (set rs n (absorbed (at rs n) (at rs i))) i) ≡ true =
        store_cases rs n _ (fresh 0) i (λ (r : Rec). spanned r ≡ true) (λ _. spanned_yes (absorbed (at rs n) (at rs i)) (λ e. c (omega arith))) (spanned_yes (at rs i) c) in
        let inside : i < length (set rs n (absorbed (at rs n) (at rs i))) = rw length-set (live_in rs i li) in
        let second = tally-set spanned (set rs n (absorbed (at rs n) (at rs i))) i (emptied (at rs i)) (fresh 0) inside there (emptied-bare (at rs i)) in
        omega (arith, tally-map spanned (renamed o n) (renamed_spanned o n) (half rs i n))

-- ---------------------------------------------------------------- a round

-- the records that have spans and the merges so far together do not grow
pub record Falls (most : ℕ) (g : Merge) : Type 0 where
  pub ready : Ready g.recs
  pub sum : tally spanned g.recs + g.merges ≤ most

pub one_falls : (area most i : ℕ) (g : Merge) → Falls most g → Falls most (merge_one area i g)
unfolding merge_one after half
one_falls area most i g h =
    if-ind (Falls most) _ (λ _. h)
    (λ e.
    let rs = g.recs in
    let a = at rs i in
    let p = picked rs a a.list (record { size = 65536; id = a.id }) in
    let lists = neither _ _ e in
    let other = neither _ _ lists.0 in
    let spans = neither _ _ (neither _ _ other.0).0 in
    let live : Live rs i = eqb-false _ _ (neither _ _ spans.0).0 in
    let some : a.count ≡ 0 → ⊥ = eqb-false _ _ spans.1 in
    let apart : p.id ≡ a.id → ⊥ = eqb-false _ _ other.1 in
    let found = picked-live rs a h.ready.named a.id a.list (record { size = 65536; id = a.id }) (λ n. absurd (n refl)) apart in
    let listed : has (at rs p.id).list a.id ≡ true = (both _ _ (not-false _ lists.1)).0 in
    let more : (at rs p.id).count ≡ 0 → ⊥ = λ z. has-none _ a.id listed (h.ready.bare p.id found.1 z) in
    record {
      ready = after_ready rs i a.id p.id h.ready found.0 found.1 some;
      sum = omega (arith, after-tally rs i a.id p.id h.ready found.0 found.1 some live more, h.sum);
    })

pub round_falls : (area : ℕ) (rs : List Rec) → Ready rs → Falls (tally spanned rs) (upto (length rs) (merge_one area) (record { recs = rs; merges = 0 }))
round_falls area rs R =
    upto-ind (λ i (g : Merge). Falls (tally spanned rs) g) (merge_one area) (record { recs = rs; merges = 0 }) (length rs)
    (record { ready = R; sum = omega arith })
    (λ i g _ h. one_falls area (tally spanned rs) i g h)

-- ---------------------------------------------------------------- the rounds end

-- a round from rs merges nothing
unfoldable pub Settled : ℕ → List Rec → Type 0
Settled area rs = (upto (length rs) (merge_one area) (record { recs = rs; merges = 0 })).merges ≡ 0

settled_now : (area : ℕ) (rs : List Rec) → (upto (length rs) (merge_one area) (record { recs = rs; merges = 0 })).merges ≡ 0 → Settled area rs
unfolding Settled
settled_now area rs e = e

pub merged_settles : (area k : ℕ) (rs : List Rec) → Ready rs → tally spanned rs < k → Settled area (merged area k rs)
unfolding merged
merged_settles area zero rs R h = absurd (omega arith)
merged_settles area (suc k) rs R h =
    let g : Merge = upto (length rs) (merge_one area) (record { recs = rs; merges = 0 }) in
    let f = round_falls area rs R in
    if-ind (Settled area) _
    (λ e. settled_now area rs (eqb-true _ 0 e))
    (λ e. let z : g.merges ≡ 0 → ⊥ = eqb-false _ 0 e in merged_settles area k g.recs f.ready (omega (arith, f.sum)))

-- the rule's records, filtered
pub regions_settle : (F : Field) (least area : ℕ) (ids : List ℕ) (next : ℕ)
    → (let rs = filtered least (records F ids next) in Settled area (merged area (suc (length rs)) rs))
regions_settle F least area ids next =
    let rs = filtered least (records F ids next) in
    let born = filtered_born F least ids next in
    merged_settles area (suc (length rs)) rs
    (record { named = λ x h. rw ((born x).own h) h; bare = λ x. (born x).bare })
    (omega (arith, tally_le spanned rs))
