-- A walk that is not back has been at no place twice, and each place is on a span of the region: so it comes back within four strides a span,
-- and lists at most four ids a span. It holds because the walker comes to no place from two (`stride-once`).
use Prim.Native.Nat.{ℕ, zero, suc, ◌+◌, ◌*◌, ◌-◌, ◌≤◌, ◌<◌}
use native.Mathlib.Omega.{arith}
use mathlib.Core.Path.{◌≡◌, refl, sym, ap, ◌∙◌}
use mathlib.Core.Bool.{Bool, true, false}
use mathlib.Core.Logic.{⊎_elim, ◌⊎◌, inl, inr}
use mathlib.Core.List.{List, [], ◌∷◌}
use lib.ListN.{length, get_or, length-append, length-take}
use lib.Dec.{eqb}
use borrow.Author.Tests.{eqb-true, eqb-false, eq-eqb, not-false}
use Rattle.rules.specs.Base.{◌and◌, when◌then◌else◌, many}
use Rattle.rules.specs.Net.{Net, spans, near}
use Rattle.rules.specs.Contour.{across, solid, Walker, stride, walk, trim, walk_from, contour, cut_short}
use Rattle.laws.proofs.Basics.{if-ind, All, Distinct, zeros_above}
use Rattle.laws.proofs.Basics.{in_list}
use Rattle.laws.proofs.Strides.{Place, Answered, stride-once}
use Rattle.contour.specs.Walks.{most_strides, first, strides, back, back_at, On, Been, Returns}

-- a place as a number
pub key : Walker → ℕ
key v = 4 * v.span + v.dir

-- the places of the first k strides
trail : Net → List ℕ → Walker → ℕ → List ℕ
trail N ids v zero = []
trail N ids v (suc k) = key (strides N ids k v) ∷ trail N ids v k

-- 0 at the places of the region, four a span
mark : ℕ → ℕ → ℕ
mark own x = when eqb own x then 0 else 1

marks : ℕ → List ℕ → List ℕ
marks own [] = []
marks own (x ∷ xs) = mark own x ∷ mark own x ∷ mark own x ∷ mark own x ∷ marks own xs

marks_length : (own : ℕ) (l : List ℕ) → length (marks own l) ≡ 4 * length l
unfolding marks
marks_length own [] = refl
marks_length own (x ∷ xs) = omega (arith, marks_length own xs)

mark_own : (own x : ℕ) → x ≡ own → mark own x ≡ 0
unfolding mark when◌then◌else◌
mark_own own x e = rw (eq-eqb own x (sym e))

marks_at_lem : (own : ℕ) (l : List ℕ) (s d : ℕ) → s < length l → d < 4 → get_or l s 0 ≡ own → get_or (marks own l) (4 * s + d) 1 ≡ 0
unfolding marks
marks_at_lem own [] s d h g e = absurd (omega arith)
marks_at_lem own (x ∷ xs) zero zero h g e = mark_own own x e
marks_at_lem own (x ∷ xs) zero (suc zero) h g e = mark_own own x e
marks_at_lem own (x ∷ xs) zero (suc (suc zero)) h g e = mark_own own x e
marks_at_lem own (x ∷ xs) zero (suc (suc (suc zero))) h g e = mark_own own x e
marks_at_lem own (x ∷ xs) zero (suc (suc (suc (suc d)))) h g e = absurd (omega arith)
marks_at_lem own (x ∷ xs) (suc s) d h g e =
    let q : 4 * suc s + d ≡ suc (suc (suc (suc (4 * s + d)))) = omega arith in
    rw q (marks_at_lem own xs s d (omega arith) g e)

marks_many : (own : ℕ) (l : List ℕ) → many (eqb 0) (marks own l) ≡ 4 * many (eqb own) l
unfolding marks many mark when◌then◌else◌
marks_many own [] = refl
marks_many own (x ∷ xs) = go (eqb own x) (marks_many own xs)
  where
    go : (b : Bool) → many (eqb 0) (marks own xs) ≡ 4 * many (eqb own) xs
        → many (eqb 0) ((when b then 0 else 1) ∷ (when b then 0 else 1) ∷ (when b then 0 else 1) ∷ (when b then 0 else 1) ∷ marks own xs) ≡ 4 * (when b then suc (many (eqb own) xs) else many (eqb own) xs)
    go true e = omega arith
    go false e = e

module _ (N : Net) (ok : Answered N) (ids : List ℕ) (size : length ids ≡ spans N) (own : ℕ) (some : own ≡ 0 → ⊥) where
  pub on_stride : (v : Walker) → On N ids own v → On N ids own (stride N ids v)
  unfolding stride solid across
  on_stride v o =
      if-ind (λ (x : Walker). On N ids own x) (solid N ids v.span v.dir)
      (λ _. record { span = o.span; dir = omega arith; id = o.id })
      (λ e.
      let same : get_or ids (near N v.span v.dir) 0 ≡ get_or ids v.span 0 = eqb-true _ _ (not-false _ e) in
      let id : get_or ids (near N v.span v.dir) 0 ≡ own = same ∙ o.id in
      let pos : 0 < get_or ids (near N v.span v.dir) 0 = rw id (omega (arith, some)) in
      record { span = omega (arith, in_list ids _ pos); dir = omega arith; id = id })

  pub on_strides : (k : ℕ) (v : Walker) → On N ids own v → On N ids own (strides N ids k v)
  unfolding strides
  on_strides zero v o = o
  on_strides (suc k) v o = on_stride _ (on_strides k v o)

  place : (v : Walker) → On N ids own v → Place N ids v
  place v o = record { span = o.span; dir = o.dir; id = λ z. some (sym o.id ∙ z) }

  key_once : (v u : Walker) → On N ids own v → On N ids own u → key (stride N ids v) ≡ key (stride N ids u) → key v ≡ key u
  unfolding key
  key_once v u o p e =
      let a = on_stride v o in
      let b = on_stride u p in
      let r = stride-once N ok ids size v u (place v o) (place u p) (omega (arith, a.dir, b.dir)) (omega (arith, a.dir, b.dir)) in
      omega (arith, r.0, r.1)

  -- the same place at strides j and j + k: so k strides come back to the start
  apart : (v : Walker) → On N ids own v → (j k m : ℕ) → m ≡ j + k → key (strides N ids j v) ≡ key (strides N ids m v) → key v ≡ key (strides N ids k v)
  unfolding strides
  apart v o zero k m q e = let q' : m ≡ k = omega arith in rw q' at e
  apart v o (suc j) k zero q e = absurd (omega arith)
  apart v o (suc j) k (suc m) q e = apart v o j k m (omega arith) (key_once _ _ (on_strides j v o) (on_strides m v o) e)

  module _ (v : Walker) (o : On N ids own v) where
    trail_on : (k : ℕ) → All (λ x. (x < length (marks own ids)) × (get_or (marks own ids) x 1 ≡ 0)) (trail N ids v k)
    unfolding trail key
    trail_on zero = tt
    trail_on (suc k) =
        let p = on_strides k v o in
        ((rw (marks_length own ids) (omega (arith, p.span, p.dir)), marks_at_lem own ids _ _ (omega (arith, p.span)) p.dir p.id), trail_on k)

    trail_new : (k : ℕ) → ((i : ℕ) → 0 < i → i ≤ k → key v ≡ key (strides N ids i v) → ⊥) → (j : ℕ) → j ≤ k → All (λ y. y ≡ key (strides N ids k v) → ⊥) (trail N ids v j)
    unfolding trail
    trail_new k n zero h = tt
    trail_new k n (suc j) h = ((λ e. n (k - j) (omega arith) (omega arith) (apart v o j (k - j) k (omega arith) e)), trail_new k n j (omega arith))

    trail_distinct : (k : ℕ) → ((i : ℕ) → 0 < i → i < k → key v ≡ key (strides N ids i v) → ⊥) → Distinct (trail N ids v k)
    unfolding trail
    trail_distinct zero n = tt
    trail_distinct (suc k) n = (trail_new k (λ i h g. n i h (omega arith)) k (omega arith), trail_distinct k (λ i h g. n i h (omega arith)))

    trail-length : (k : ℕ) → length (trail N ids v k) ≡ k
    unfolding trail
    trail-length zero = refl
    trail-length (suc k) = ap suc (trail-length k)

    -- not back within k strides: k + 1 places
    pub strides_room : (k : ℕ) → ((i : ℕ) → 0 < i → i ≤ k → key v ≡ key (strides N ids i v) → ⊥) → k < 4 * many (eqb own) ids
    strides_room k n =
        let z = zeros_above (trail N ids v (suc k)) (marks own ids) (trail_distinct (suc k) (λ i h g. n i h (omega arith))) (trail_on (suc k)) in
        omega (arith, z, marks_many own ids, trail-length (suc k))

  -- ---------------------------------------------------------------- from a start

  module _ (s d : ℕ) (h : s < spans N) (g : d < 4) (mine : get_or ids s 0 ≡ own) where
    pub on_first : On N ids own (first N ids s d)
    unfolding first
    on_first = record { span = h; dir = g; id = mine }

    pub been_on : (k : ℕ) (v : Walker) → Been N ids s d k v → On N ids own v
    been_on k v b = rw b.here (on_strides k (first N ids s d) on_first)

    key_back : (u : Walker) → u.dir < 4 → back s d u ≡ false → key (first N ids s d) ≡ key u → ⊥
    unfolding back_at first key ◌and◌
    key_back u l e q =
        let a : u.span ≡ s = omega (arith, g, l) in
        let b : u.dir ≡ d = omega (arith, g, l) in
        let z : true ≡ false = rw (eq-eqb _ _ a, eq-eqb _ _ b) at e in
        absurd (mathlib.Core.Bool.true≢false z)

    pub been_room : (k : ℕ) (v : Walker) → Been N ids s d k v → k < 4 * many (eqb own) ids
    been_room k v b = strides_room (first N ids s d) on_first k (λ i p q e. key_back _ (on_strides i _ on_first).dir (b.never i p q) e)

    listed_grow : (v : Walker) → length (stride N ids v).listed ≤ suc (length v.listed)
    unfolding stride
    listed_grow v =
        if-ind (λ (x : Walker). length x.listed ≤ suc (length v.listed)) (solid N ids v.span v.dir)
        (λ _. if-ind (λ (l : List ℕ). length l ≤ suc (length v.listed)) (eqb (across N ids v.span v.dir) v.last) (λ _. omega arith) (λ _. simp length-append (omega arith)))
        (λ _. omega arith)

    listed-first : length (stride N ids (first N ids s d)).listed ≤ 1
    unfolding stride first
    listed-first =
        if-ind (λ (x : Walker). length x.listed ≤ 1) (solid N ids s d)
        (λ _. if-ind (λ (l : List ℕ). length l ≤ 1) (eqb (across N ids s d) (across N ids s d)) (λ _. omega arith) (λ e. absurd (eqb-false (across N ids s d) (across N ids s d) e refl)))
        (λ _. omega arith)

    listed_le : (k : ℕ) → length (strides N ids (suc k) (first N ids s d)).listed ≤ suc k
    unfolding strides
    listed_le zero = listed-first
    listed_le (suc k) = omega (arith, listed_grow (strides N ids (suc k) (first N ids s d)), listed_le k)

    -- room for what is listed
    pub been_listed : (k : ℕ) (v : Walker) → Been N ids s d k v → length (stride N ids v).listed ≤ 4 * many (eqb own) ids
    unfolding strides
    been_listed k v b = let r = been_room k v b in rw b.here (omega (arith, listed_le k))

    -- where one more id is to be listed there is room for it
    pub been_space : (k : ℕ) (v : Walker) → Been N ids s d k v → (across N ids v.span v.dir ≡ v.last → ⊥) → length v.listed < 4 * many (eqb own) ids
    unfolding strides first
    been_space zero v b n =
        let e : across N ids v.span v.dir ≡ v.last = rw b.here refl in
        absurd (n e)
    been_space (suc k) v b n =
        let r = been_room (suc k) v b in
        let l : length v.listed ≤ suc k = rw b.here (listed_le k) in
        omega arith

    pub been_first : Been N ids s d 0 (first N ids s d)
    unfolding strides
    been_first = record { here = refl; never = λ i p q. absurd (omega arith) }

    pub been_next : (k : ℕ) (v : Walker) → Been N ids s d k v → back s d (stride N ids v) ≡ false → Been N ids s d (suc k) (stride N ids v)
    unfolding strides
    been_next k v b e = record {
      here = ap (stride N ids) b.here;
      never = λ i p q.
          elim (native.Mathlib.Decide.dec_lt k i) [
            | yes l ↦ let j : i ≡ suc k = omega arith in rw (j, ← b.here) e
            | no l ↦ b.never i p (omega arith)
          ];
    }

    walk-listed : (f k : ℕ) (v : Walker) → Been N ids s d k v → length v.listed ≤ 4 * many (eqb own) ids → length (walk N ids s d f v).listed ≤ 4 * many (eqb own) ids
    unfolding walk back_at
    walk-listed zero k v b l = l
    walk-listed (suc f) k v b l =
        if-ind (λ (x : Walker). length x.listed ≤ 4 * many (eqb own) ids) (eqb (stride N ids v).span s and eqb (stride N ids v).dir d)
        (λ _. been_listed k v b)
        (λ e. walk-listed f (suc k) (stride N ids v) (been_next k v b e) (been_listed k v b))

    trim_le : (l : List ℕ) → length (trim l) ≤ length l
    unfolding trim
    trim_le l = if-ind (λ (x : List ℕ). length x ≤ length l) _ (λ _. simp length-take (omega arith)) (λ _. omega arith)

    -- a contour lists at most four ids for each span of the region
    pub contour_room : length (contour N ids s d) ≤ 4 * many (eqb own) ids
    unfolding contour walk_from first
    contour_room =
        let w : length (walk N ids s d most_strides (first N ids s d)).listed ≤ 4 * many (eqb own) ids = walk-listed most_strides 0 _ been_first (omega (arith, been_room 0 _ been_first)) in
        omega (arith, trim_le (walk N ids s d most_strides (first N ids s d)).listed, w)

    -- ---------------------------------------------------------------- back within four strides a span

    -- either the walk has come back, or it has been k strides
    been_or-back : (k n : ℕ) → k ≤ n → Returns N ids s d n ⊎ Been N ids s d k (strides N ids k (first N ids s d))
    unfolding strides
    been_or-back zero n h = inr been_first
    been_or-back (suc k) n h =
        ⊎_elim inl
        (λ b. go (back s d (stride N ids (strides N ids k (first N ids s d)))) refl b)
        (been_or-back k n (omega arith))
      where
        go : (x : Bool) → back s d (stride N ids (strides N ids k (first N ids s d))) ≡ x → Been N ids s d k (strides N ids k (first N ids s d))
            → Returns N ids s d n ⊎ Been N ids s d (suc k) (stride N ids (strides N ids k (first N ids s d)))
        go true e b = inl (record { steps = suc k; some = omega arith; within = h; home = e })
        go false e b = inr (been_next k _ b e)

    -- a walk comes back to its start within four strides for each span of its region
    pub walk_returns : Returns N ids s d (4 * many (eqb own) ids)
    walk_returns =
        ⊎_elim (λ r. r)
        (λ b. absurd (omega (arith, been_room (4 * many (eqb own) ids) _ b)))
        (been_or-back (4 * many (eqb own) ids) (4 * many (eqb own) ids) (omega arith))

    -- so a walk with that much fuel is not cut short
    walk_home : (f k : ℕ) (v : Walker) → Been N ids s d k v → 4 * many (eqb own) ids ≤ f + k → back s d (walk N ids s d f v) ≡ true
    unfolding walk back_at
    walk_home zero k v b h = absurd (omega (arith, been_room k v b))
    walk_home (suc f) k v b h =
        if-ind (λ (x : Walker). eqb x.span s and eqb x.dir d ≡ true) (eqb (stride N ids v).span s and eqb (stride N ids v).dir d)
        (λ e. e)
        (λ e. walk_home f (suc k) (stride N ids v) (been_next k v b e) (omega arith))

    pub walk_whole : 4 * many (eqb own) ids ≤ most_strides → back s d (walk N ids s d most_strides (first N ids s d)) ≡ true
    walk_whole h = walk_home most_strides 0 _ been_first (omega arith)

    -- a region of at most 10,000 spans is never cut short
    pub never_cut : many (eqb own) ids ≤ 10000 → cut_short N ids s d ≡ false
    unfolding cut_short walk_from first back_at
    never_cut few = rw (walk_whole (omega arith)) refl
