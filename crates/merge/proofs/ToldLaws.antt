-- Merges noted past the records. A turn over the records before `end` leaves what is past them; what is noted there is the rule's list, one longer for each merge.
-- Each merge leaves one record fewer that bears its own number, so there is room. Records with floors that stay bear the same ids as the rule's. Assumes nothing.
use Prim.Native.Nat.{ℕ, zero, suc, ◌+◌, ◌-◌, ◌*◌, ◌≤◌, ◌<◌}
use native.Mathlib.Omega.{arith}
use native.Mathlib.Decide.{dec_lt}
use native.Mathlib.Numerals.{add-one}
use mathlib.Core.Path.{◌≡◌, refl, sym, ap, ◌∙◌}
use mathlib.Core.Bool.{Bool}
use mathlib.Core.List.{List, [], ◌∷◌, ◌++◌}
use lib.ListN.{length, get_or, set, take, drop, length-set}
use lib.Seq.{length-take-le, take_at, drop_at, take-set-le, get_or-take, get_or-drop, get_or-set_same, get_or-set_other}
use Rattle.std.proofs.Common.{length-append, length-drop}
use lib.Dec.{eqb}
use borrow.Author.Tests.{eq-eqb, ne_eqb}
use Rattle.rules.specs.Base.{when◌then◌else◌, upto}
use Rattle.rules.specs.Records.{Rec, at}
use Rattle.rules.specs.Merge.{Merge, merge_one}
use Rattle.rules.specs.Reasons.{Merging, gone_with, merge_tells, round_merges, mergings}
use Rattle.laws.proofs.Basics.{upto_next}
use Rattle.table.specs.View.{recs_of}
use Rattle.table.proofs.ViewLaws.{recs_length, id_at_lem}
use Rattle.filter.specs.Group.{Calm}
use Rattle.pool.specs.Alike.{Alike, Joined}
use Rattle.pool.specs.Fixed.{merge_one_f}
use Rattle.pool.specs.Pool.{Pool}
use Rattle.pool.specs.Forms.{PoolIn, LaidIn}
use Rattle.pool.specs.declared.Half.{Half}
use Rattle.pool.proofs.MergeLaws.{Both, alike_start, one_alike, round_alike, one_falls, owners, owners_most}
use Rattle.merge.specs.declared.merge.Round.{Round}
use Rattle.merge.specs.declared.told.Noted.{Noted}
use Rattle.merge.specs.Rounds.{first_half}
use Rattle.merge.specs.Told.{mergings_at, tells_f, round_merges_f, mergings_f, merge_at, Noting, MergedIn, NotedOne, NotedRound, NotedAll, FilteredIn, ToldRegions}
use Rattle.rules.specs.Filter.{filtered}
use Rattle.rules.specs.Numbering.{Regions, numbered}
use Rattle.space.specs.Space.{Frame}
use Rattle.merge.specs.Ready.{Ready}
use Rattle.merge.proofs.TopLaws.{filter-fresh, ready_fresh, filtered_pool, filtered_laid, filtered-joined, numbered_top}
use Rattle.merge.proofs.TurnLaws.{Rounds, rounds-start, rounds_go, rounds_falls, rounds_done, joined_at, one_grows, half_pool, half_laid, pool_rest}

-- ---------------------------------------------------------------- a part, and what is past it

pub part_length : (end : ℕ) (ws : List ℕ) → end ≤ length ws → length (take end ws) ≡ end
part_length end ws h = length-take-le end ws h

pub part_size : (end : ℕ) (ws ys : List ℕ) → end ≤ length ws → length ys ≡ length (take end ws) → length (ys ++ drop end ws) ≡ length ws
part_size end ws ys h l = omega (arith, length-append ys (drop end ws), length-drop end ws, length-take-le end ws h, l)

pub merged_in : (area i m end : ℕ) (ws ys : List ℕ) (g r : Round) → end ≤ length ws → length ys ≡ length (take end ws)
    → record { recs = recs_of ys m; merges = r.merges } ≡ merge_one_f area i (record { recs = recs_of (take end ws) m; merges = g.merges })
    → PoolIn m r.half ys → r.merges ≤ g.merges + 1 → LaidIn m r.half ys → r.half.size ≡ g.half.size
    → MergedIn area i m end ws g (ys ++ drop end ws) r
merged_in area i m end ws ys g r h l e P k L s =
    let n : length ys ≡ end = l ∙ length-take-le end ws h in
    let t = take_at ys (drop end ws) end n in
    record { same = rw t e; pool = rw t P; more = k; sized = s; laid = rw t L; past = drop_at ys (drop end ws) end n }

past_at : (end x : ℕ) (ws ws' : List ℕ) → end ≤ x → drop end ws' ≡ drop end ws → get_or ws' x 0 ≡ get_or ws x 0
past_at end x ws ws' h e =
    let k : end + (x - end) ≡ x = omega arith in
    rw (← k) (sym (get_or-drop end ws' (x - end) 0) ∙ ap (λ (l : List ℕ). get_or l (x - end) 0) e ∙ get_or-drop end ws (x - end) 0)

-- ---------------------------------------------------------------- what is noted

-- it is read past `end` alone, so far as it goes
noted-same : (end k : ℕ) (ws ws' : List ℕ) → ((x : ℕ) → end ≤ x → x < end + 2 * k → get_or ws' x 0 ≡ get_or ws x 0) → mergings_at ws' end k ≡ mergings_at ws end k
unfolding mergings_at
noted-same end zero ws ws' f = refl
noted-same end (suc k) ws ws' f =
    rw (noted-same end k ws ws' (λ x h g. f x h (omega arith)), f (end + 2 * k) (omega arith) (omega arith), f (end + 2 * k + 1) (omega arith) (omega arith))

noted_more : (end k : ℕ) (ws : List ℕ) → mergings_at ws end (k + 1) ≡ mergings_at ws end k ++ (record { old = get_or ws (end + 2 * k) 0; new = get_or ws (end + 2 * k + 1) 0 } ∷ [])
unfolding mergings_at
noted_more end k ws = rw add-one

merging_eq : {a b c d : ℕ} → a ≡ c → b ≡ d → ◌≡◌ {A = Merging} (record { old = a; new = b }) (record { old = c; new = d })
merging_eq p q = rw (p, q)

tells_none : (area i : ℕ) (g : Merge) (l : List Merging) → (merge_one_f area i g).merges ≡ g.merges → tells_f area i g l ≡ l
unfolding tells_f when◌then◌else◌
tells_none area i g l e = rw (eq-eqb _ _ e)

tells_some : (area i : ℕ) (g : Merge) (l : List Merging) → ((merge_one_f area i g).merges ≡ g.merges → ⊥)
    → tells_f area i g l ≡ l ++ (record { old = (at g.recs i).id; new = (at (merge_one_f area i g).recs i).id } ∷ [])
unfolding tells_f when◌then◌else◌
tells_some area i g l e = rw (ne_eqb _ _ e)

-- ---------------------------------------------------------------- one record

-- the records' columns lie before `end`
pub pool_mid : (m p h o end : ℕ) (ws : List ℕ) → end ≤ length ws → Pool m p h o (take end ws) → 16 * m ≤ end
pool_mid m p h o end ws l P = omega (arith, P.halves.past, P.halves.into, length-take-le end ws l)

module _ (area i m end : ℕ) (ws : List ℕ) (g : Noted) (h : i < m) (room : end ≤ length ws) (mid : 16 * m ≤ end)
    (j : Joined (recs_of (take end ws) m)) (few : g.count + owners m (recs_of (take end ws) m) ≤ m)
    (ws₁ : List ℕ) (r : Round) (k : MergedIn area i m end ws g.round ws₁ r) (size : length ws₁ ≡ length ws) where
  falls : owners m (recs_of (take end ws₁) m) + r.merges ≤ owners m (recs_of (take end ws) m) + g.round.merges
  falls =
      let f = one_falls area i m (record { recs = j.rs; merges = g.round.merges }) (merge_at m end ws g.round.merges) (record { recs = j.alike; merges = refl }) h in
      omega (arith, f, ap (λ (x : Merge). owners m x.recs) k.same, ap (λ (x : Merge). x.merges) k.same)

  merges_is : (merge_one_f area i (merge_at m end ws g.round.merges)).merges ≡ r.merges
  merges_is = sym (ap (λ (x : Merge). x.merges) k.same)

  kept : mergings_at ws₁ end g.count ≡ mergings_at ws end g.count
  kept = noted-same end g.count ws ws₁ (λ x l u. past_at end x ws ws₁ l k.past)

  -- it merges nothing
  pub noted-none : r.merges ≡ g.round.merges → NotedOne area i m end ws g ws₁ (record { round = r; count = g.count })
  noted-none e = record {
    same = k.same;
    pool = k.pool;
    more = k.more;
    sized = k.sized;
    laid = k.laid;
    few = omega (arith, falls);
    told = λ _. kept ∙ sym (tells_none area i (merge_at m end ws g.round.merges) (mergings_at ws end g.count) (merges_is ∙ e));
  }

  -- it merges
  module _ (e : r.merges ≡ g.round.merges → ⊥) (old new : ℕ) (eo : old ≡ get_or ws i 0) (en : new ≡ get_or ws₁ i 0)
      (ws₂ : List ℕ) (d : end + 2 * g.count + 1 < length ws₁ → ws₂ ≡ set (set ws₁ (end + 2 * g.count) old) (end + 2 * g.count + 1) new)
      (full : length ws₁ ≤ end + 2 * g.count + 1 → ws₂ ≡ ws₁) where
    more_by : r.merges ≡ g.round.merges + 1
    more_by = omega (arith, k.more, grows)
      where
        grows : g.round.merges ≤ r.merges
        grows = rw (← merges_is) (one_grows area i (merge_at m end ws g.round.merges))

    note_in : Noting m end ws → end + 2 * g.count + 1 < length ws₁
    note_in w = omega (arith, falls, more_by, few, w, size)

    part₂ : take end ws₂ ≡ take end ws₁
    part₂ =
        let a : end ≤ end + 2 * g.count = omega arith in
        let b : end ≤ end + 2 * g.count + 1 = omega arith in
        elim (dec_lt (end + 2 * g.count + 1) (length ws₁)) [
          | yes l ↦ rw (d l) (take-set-le end (set ws₁ (end + 2 * g.count) old) (end + 2 * g.count + 1) new b ∙ take-set-le end ws₁ (end + 2 * g.count) old a)
          | no l ↦ ap (take end) (full (omega arith))
        ]

    old_is : (at (recs_of (take end ws) m) i).id ≡ get_or ws i 0
    old_is = id_at_lem (take end ws) m i h ∙ get_or-take end ws i 0 (omega arith)

    new_is : (at (merge_one_f area i (merge_at m end ws g.round.merges)).recs i).id ≡ get_or ws₁ i 0
    new_is = sym (ap (λ (x : Merge). (at x.recs i).id) k.same) ∙ id_at_lem (take end ws₁) m i h ∙ get_or-take end ws₁ i 0 (omega arith)

    first : end + 2 * g.count + 1 < length ws₁ → get_or ws₂ (end + 2 * g.count) 0 ≡ old
    first l = rw (d l) (get_or-set_other (set ws₁ (end + 2 * g.count) old) (end + 2 * g.count + 1) (end + 2 * g.count) new 0 (λ z. omega arith) ∙ get_or-set_same ws₁ (end + 2 * g.count) old 0 (omega arith))

    second : end + 2 * g.count + 1 < length ws₁ → get_or ws₂ (end + 2 * g.count + 1) 0 ≡ new
    second l = rw (d l) (get_or-set_same (set ws₁ (end + 2 * g.count) old) (end + 2 * g.count + 1) new 0 (rw length-set l))

    before₂ : end + 2 * g.count + 1 < length ws₁ → mergings_at ws₂ end g.count ≡ mergings_at ws₁ end g.count
    before₂ w = noted-same end g.count ws₁ ws₂ (λ x l u. rw (d w) (
        get_or-set_other (set ws₁ (end + 2 * g.count) old) (end + 2 * g.count + 1) x new 0 (λ z. omega arith)
        ∙ get_or-set_other ws₁ (end + 2 * g.count) x old 0 (λ z. omega arith)))

    pub noted_some : NotedOne area i m end ws g ws₂ (record { round = r; count = g.count + 1 })
    noted_some = record {
      same = rw part₂ k.same;
      pool = rw part₂ k.pool;
      more = k.more;
      sized = k.sized;
      laid = rw part₂ k.laid;
      few = rw part₂ (omega (arith, falls, more_by, few));
      told = λ w.
          noted_more end g.count ws₂
          ∙ ap (λ (l : List Merging). l ++ (record { old = get_or ws₂ (end + 2 * g.count) 0; new = get_or ws₂ (end + 2 * g.count + 1) 0 } ∷ [])) (before₂ (note_in w) ∙ kept)
          ∙ ap (λ (x : Merging). mergings_at ws end g.count ++ (x ∷ [])) (merging_eq (first (note_in w) ∙ eo ∙ sym old_is) (second (note_in w) ∙ en ∙ sym new_is))
          ∙ sym (tells_some area i (merge_at m end ws g.round.merges) (mergings_at ws end g.count) (λ z. e (sym merges_is ∙ z)));
    }

-- ---------------------------------------------------------------- a round

round_tells_lem : (area k : ℕ) (g : Merge) (l : List Merging) → round_merges_f area (k + 1) g l ≡ tells_f area k (upto k (merge_one_f area) g) (round_merges_f area k g l)
unfolding round_merges_f
round_tells_lem area k g l = rw add-one

module _ (area m end : ℕ) (ws₀ : List ℕ) (count : ℕ) where
  pub round-start : (half : Half) → PoolIn m half (take end ws₀) → LaidIn m half (take end ws₀) → count + owners m (recs_of (take end ws₀) m) ≤ m
      → NotedRound area 0 m half.size end ws₀ count ws₀ (record { round = record { half = half; merges = 0 }; count = count })
  unfolding upto round_merges_f
  round-start half P L f = record { same = refl; less = omega arith; sized = refl; pool = P; laid = L; few = f; told = λ _. refl }

  module _ (i size : ℕ) (ws : List ℕ) (g : Noted) (v : NotedRound area i m size end ws₀ count ws g) where
    pub round-joined : Joined (recs_of (take end ws₀) m) → Joined (recs_of (take end ws) m)
    round-joined j = joined_at area m i (take end ws₀) (take end ws) g.round.merges j v.same

    pub round_next : length ws ≡ length ws₀ → (ws' : List ℕ) (r : Noted) → NotedOne area i m end ws g ws' r → NotedRound area (i + 1) m size end ws₀ count ws' r
    round_next n ws' r k = record {
      same = k.same ∙ ap (merge_one_f area i) v.same ∙ sym (upto_next i (merge_one_f area) (merge_at m end ws₀ 0));
      less = omega (arith, k.more, v.less);
      sized = k.sized ∙ v.sized;
      pool = k.pool;
      laid = k.laid;
      few = k.few;
      told = λ w. k.told (rw n w) ∙ ap (λ (x : Merge). tells_f area i x (mergings_at ws end g.count)) v.same
          ∙ ap (tells_f area i (upto i (merge_one_f area) (merge_at m end ws₀ 0))) (v.told w)
          ∙ sym (round_tells_lem area i (merge_at m end ws₀ 0) (mergings_at ws₀ end count));
    }

    pub round_done : i ≤ m → m ≤ i → NotedRound area m m size end ws₀ count ws g
    round_done h k = let e : i ≡ m = omega arith in rw e at v

-- ---------------------------------------------------------------- all rounds

round_grows : (area k : ℕ) (g : Merge) → g.merges ≤ (upto k (merge_one_f area) g).merges
unfolding upto
round_grows area zero g = omega arith
round_grows area (suc k) g = omega (arith, round_grows area k g, one_grows area k (upto k (merge_one_f area) g))

-- a round that merges nothing tells nothing
still_tells : (area k : ℕ) (g : Merge) (l : List Merging) → (upto k (merge_one_f area) g).merges ≡ g.merges → round_merges_f area k g l ≡ l
unfolding upto round_merges_f
still_tells area zero g l e = refl
still_tells area (suc k) g l e =
    let r = upto k (merge_one_f area) g in
    let a = round_grows area k g in
    let z : r.merges ≡ g.merges = omega (arith, one_grows area k r) in
    tells_none area k r (round_merges_f area k g l) (e ∙ sym z) ∙ still_tells area k g l z

module _ (area k : ℕ) (rs : List Rec) (l : List Merging) where
  tells_more : ((upto (length rs) (merge_one_f area) (record { recs = rs; merges = 0 })).merges ≡ 0 → ⊥)
      → mergings_f area (suc k) rs l ≡ mergings_f area k (upto (length rs) (merge_one_f area) (record { recs = rs; merges = 0 })).recs (round_merges_f area (length rs) (record { recs = rs; merges = 0 }) l)
  unfolding mergings_f when◌then◌else◌
  tells_more n = rw (ne_eqb _ 0 n)

  tells_last : (upto (length rs) (merge_one_f area) (record { recs = rs; merges = 0 })).merges ≡ 0 → mergings_f area (suc k) rs l ≡ l
  unfolding mergings_f when◌then◌else◌
  tells_last n = rw (eq-eqb _ 0 n)

-- before each round
pub record AllNoted (area m end : ℕ) (ws₀ ws : List ℕ) (half : Half) (count : ℕ) : Type 0 where
  pub size : length ws ≡ length ws₀
  pub pool : PoolIn m half (take end ws)
  pub laid : LaidIn m half (take end ws)
  pub rounds : Rounds area m (take end ws₀) (take end ws)
  pub few : count + owners m (recs_of (take end ws) m) ≤ m
  pub fuel : ℕ
  pub enough : owners m (recs_of (take end ws) m) ≤ fuel
  pub told : Noting m end ws₀ → mergings_f area (suc m) (recs_of (take end ws₀) m) [] ≡ mergings_f area (suc fuel) (recs_of (take end ws) m) (mergings_at ws end count)

pub all_start : (area m n end : ℕ) (ws : List ℕ) (half : Half) → half ≡ first_half m n → PoolIn m (first_half m n) (take end ws) → LaidIn m (first_half m n) (take end ws)
    → Joined (recs_of (take end ws) m) → AllNoted area m end ws ws half 0
unfolding mergings_at
all_start area m n end ws half e P L j = record {
  size = refl;
  pool = half_pool m n half e (take end ws) P;
  laid = half_laid m n half e (take end ws) L;
  rounds = rounds-start area m (take end ws) j;
  few = omega (arith, owners_most m (recs_of (take end ws) m));
  fuel = m;
  enough = owners_most m (recs_of (take end ws) m);
  told = λ _. refl;
}

module _ (area m end : ℕ) (ws₀ ws : List ℕ) (half : Half) (count : ℕ) (v : AllNoted area m end ws₀ ws half count)
    (ws' : List ℕ) (g : Noted) (k : NotedRound area m m half.size end ws count ws' g) (size : length ws' ≡ length ws) where
  whole : upto (length (recs_of (take end ws) m)) (merge_one_f area) (merge_at m end ws 0) ≡ merge_at m end ws' g.round.merges
  whole = ap (λ (n : ℕ). upto n (merge_one_f area) (merge_at m end ws 0)) (recs_length (take end ws) m) ∙ sym k.same

  tells_whole : Noting m end ws → round_merges_f area (length (recs_of (take end ws) m)) (merge_at m end ws 0) (mergings_at ws end count) ≡ mergings_at ws' end g.count
  tells_whole w = ap (λ (n : ℕ). round_merges_f area n (merge_at m end ws 0) (mergings_at ws end count)) (recs_length (take end ws) m) ∙ sym (k.told w)

  more : (fuel : ℕ) → (g.round.merges ≡ 0 → ⊥) → owners m (recs_of (take end ws) m) ≤ fuel
      → (Noting m end ws₀ → mergings_f area (suc m) (recs_of (take end ws₀) m) [] ≡ mergings_f area (suc fuel) (recs_of (take end ws) m) (mergings_at ws end count))
      → (n : ℕ) × (owners m (recs_of (take end ws') m) ≤ n) × (Noting m end ws₀ → mergings_f area (suc m) (recs_of (take end ws₀) m) [] ≡ mergings_f area (suc n) (recs_of (take end ws') m) (mergings_at ws' end g.count))
  more zero z h q = absurd (omega (arith, rounds_falls area m (take end ws₀) (take end ws) (take end ws') g.round.merges k.same v.rounds z))
  more (suc n) z h q = (
    n,
    omega (arith, rounds_falls area m (take end ws₀) (take end ws) (take end ws') g.round.merges k.same v.rounds z),
    λ w. q w ∙ tells_more area (suc n) (recs_of (take end ws) m) (mergings_at ws end count) (λ y. z (sym (ap (λ (x : Merge). x.merges) whole) ∙ y))
        ∙ ap (λ (x : Merge). mergings_f area (suc n) x.recs (round_merges_f area (length (recs_of (take end ws) m)) (merge_at m end ws 0) (mergings_at ws end count))) whole
        ∙ ap (mergings_f area (suc n) (recs_of (take end ws') m)) (tells_whole (rw v.size w)),
  )

  pub all_next : (g.round.merges ≡ 0 → ⊥) → AllNoted area m end ws₀ ws' g.round.half g.count
  all_next z =
      let b = more v.fuel z v.enough v.told in
      record {
        size = size ∙ v.size;
        pool = k.pool;
        laid = k.laid;
        rounds = rounds_go area m (take end ws₀) (take end ws) (take end ws') g.round.merges k.same v.rounds z;
        few = k.few;
        fuel = b.0;
        enough = b.1;
        told = b.2;
      }

  pub all_falls : (g.round.merges ≡ 0 → ⊥) → owners m (recs_of (take end ws') m) < owners m (recs_of (take end ws) m)
  all_falls z = rounds_falls area m (take end ws₀) (take end ws) (take end ws') g.round.merges k.same v.rounds z

  pub all_done : g.round.merges ≡ 0 → NotedAll area m end ws₀ ws' g.count
  all_done z =
      let w : (upto (length (recs_of (take end ws) m)) (merge_one_f area) (merge_at m end ws 0)).merges ≡ 0 = ap (λ (x : Merge). x.merges) whole ∙ z in
      record {
        same = rounds_done area m (take end ws₀) (take end ws) (take end ws') g.round.merges k.same v.rounds z;
        rest = pool_rest m g.round.half.size g.round.half.now g.round.half.other (take end ws') k.pool;
        few = omega (arith, k.few);
        told = λ n. sym (tells_whole (rw v.size n)) ∙ still_tells area (length (recs_of (take end ws) m)) (merge_at m end ws 0) (mergings_at ws end count) w
            ∙ sym (v.told n ∙ tells_last area v.fuel (recs_of (take end ws) m) (mergings_at ws end count) w);
      }

-- ---------------------------------------------------------------- the rule's records

if-same : (b c : Bool) (x y z w : List Merging) → b ≡ c → x ≡ z → y ≡ w → (when b then x else y) ≡ (when c then z else w)
if-same b c x y z w p q r = rw (p, q, r)

tells_alike : (area i : ℕ) (g h : Merge) → Both g h → (l : List Merging) → merge_tells area i g l ≡ tells_f area i h l
unfolding merge_tells tells_f
tells_alike area i g h B l =
    let C = one_alike area i g h B in
    if-same _ _ l _ l _ (eqb_eq C.merges B.merges) refl (ap (λ (x : Merging). l ++ (x ∷ [])) (merging_eq (B.recs.same i).id (C.recs.same i).id))
  where
    eqb_eq : {a b c d : ℕ} → a ≡ c → b ≡ d → eqb a b ≡ eqb c d
    eqb_eq p q = rw (p, q)

round-told : (area k : ℕ) (g h : Merge) → Both g h → (l : List Merging) → round_merges area k g l ≡ round_merges_f area k h l
unfolding round_merges round_merges_f
round-told area zero g h B l = refl
round-told area (suc k) g h B l =
    tells_alike area k (upto k (merge_one area) g) (upto k (merge_one_f area) h) (round_alike area k g h B) (round_merges area k g l)
    ∙ ap (tells_f area k (upto k (merge_one_f area) h)) (round-told area k g h B l)

pub mergings_alike : (area k : ℕ) (rs fs : List Rec) → Alike rs fs → (l : List Merging) → mergings area k rs l ≡ mergings_f area k fs l
unfolding mergings mergings_f
mergings_alike area zero rs fs A l = refl
mergings_alike area (suc k) rs fs A l =
    let g : Merge = record { recs = rs; merges = 0 } in
    let h : Merge = record { recs = fs; merges = 0 } in
    let B : Both g h = record { recs = A; merges = refl } in
    let C : Both (upto (length rs) (merge_one area) g) (upto (length fs) (merge_one_f area) h) = rw A.size (round_alike area (length fs) g h B) in
    let t : round_merges area (length rs) g l ≡ round_merges_f area (length fs) h l = rw A.size (round-told area (length fs) g h B l) in
    if-same _ _ l _ l _ (ap (λ (y : ℕ). eqb y 0) C.merges) refl
    (mergings_alike area k _ _ C.recs (round_merges area (length rs) g l) ∙ ap (mergings_f area k (upto (length fs) (merge_one_f area) h).recs) t)

-- ---------------------------------------------------------------- filter, merge, numbering

pub filtered_in : (least r m end : ℕ) (ws ys : List ℕ) (k : ℕ) → end ≤ length ws → length ys ≡ length (take end ws)
    → recs_of ys m ≡ filtered least (recs_of (take end ws) m) → Calm m ys → Frame 0 (5 * m) (take end ws) ys → k ≡ gone_with least r m (recs_of (take end ws) m)
    → FilteredIn least r m end ws (ys ++ drop end ws) k
filtered_in least r m end ws ys k h l e C f g =
    let n : length ys ≡ end = l ∙ length-take-le end ws h in
    let t = take_at ys (drop end ws) end n in
    record { same = rw t e; calm = rw t C; frame = rw t f; gone = g }

pub number_past : (end : ℕ) (ws ys : List ℕ) → end ≤ length ws → length ys ≡ length (take end ws) → drop end (ys ++ drop end ws) ≡ drop end ws
number_past end ws ys h l = drop_at ys (drop end ws) end (l ∙ length-take-le end ws h)

module _ (least area m n end r : ℕ) (ws ids : List ℕ) (room : end + 2 * m ≤ length ws) (R : Ready m n (take end ws) ids) (h : r < m)
    (ws₁ : List ℕ) (k : ℕ) (F : FilteredIn least r m end ws ws₁ k) (size : length ws₁ ≡ length ws) where
  same-part : length (take end ws₁) ≡ length (take end ws)
  same-part = length-take-le end ws₁ (omega (arith, size)) ∙ sym (length-take-le end ws (omega arith))

  pub told_pool : Pool m (4 * n) (16 * m) (16 * m + 4 * n) (take end ws₁)
  told_pool = filtered_pool m n (take end ws) ids R least (take end ws₁) F.same F.calm F.frame same-part

  pub told_laid : LaidIn m (first_half m n) (take end ws₁)
  told_laid = filtered_laid m n (take end ws) ids R least (take end ws₁) F.same F.calm F.frame same-part

  pub told-joined : Joined (recs_of (take end ws₁) m)
  told-joined = filtered-joined m n (take end ws) ids R least (take end ws₁) F.same F.calm F.frame same-part

  pub told_mid : 16 * m ≤ end
  told_mid = omega (arith, R.room, length-take-le end ws (omega arith))

  module _ (ws₂ : List ℕ) (merges : ℕ) (A : NotedAll area m end ws₁ ws₂ merges) where
    pub told-regions : (ws₃ : List ℕ) → drop end ws₃ ≡ drop end ws₂ → (ids' : List ℕ) (q o u : ℕ)
        → ◌≡◌ {A = Regions} (record { ids = ids'; most = q; over = o; cut = u }) (numbered (recs_of (take end ws₂) m) ids)
        → (id : ℕ) → id ≡ get_or ws₁ r 0 → ToldRegions least area m end r ws ids ws₃ (record { ids = ids'; most = q; over = o; cut = u }) id k merges
    told-regions ws₃ past ids' q o u d id e = record {
      regions = numbered_top m n (take end ws) ids R least (take end ws₁) F.same F.calm F.frame same-part area (take end ws₂) ids' q o u A.same d;
      id_is = e ∙ sym (get_or-take end ws₁ r 0 (omega (arith, told_mid))) ∙ sym (id_at_lem (take end ws₁) m r h) ∙ ap (λ (rs : List Rec). (at rs r).id) F.same;
      gone = F.gone;
      few = A.few;
      told = noted-same end merges ws₂ ws₃ (λ x l _. past_at end x ws₂ ws₃ l past) ∙ A.told (rw size room)
          ∙ ap (λ (rs : List Rec). mergings_f area (suc m) rs []) F.same
          ∙ sym (mergings_alike area (suc m) _ _ (alike_start _ (filter-fresh least (recs_of (take end ws) m) (ready_fresh m n (take end ws) ids R))) []);
    }
