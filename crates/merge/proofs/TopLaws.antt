-- The stages one after the other. The filter only marks and removes: the pool stays as it was, counts do not grow, and a live record still bears its own number.
-- So the merge with floors that stay gives the rule's numbers.
use Prim.Native.Nat.{ℕ, suc, ◌+◌, ◌*◌, ◌≤◌, ◌<◌}
use native.Mathlib.Omega.{arith}
use native.Mathlib.Decide.{dec_lt}
use mathlib.Core.Path.{◌≡◌, refl, sym, ap, ◌∙◌}
use mathlib.Core.Logic.{inl}
use mathlib.Core.List.{List}
use lib.ListN.{length, get_or, get_or-eq_default}
use Rattle.rules.specs.Records.{Rec, fresh, at}
use Rattle.rules.specs.Filter.{seen, removed, filtered}
use Rattle.rules.specs.Merge.{merged}
use Rattle.rules.specs.Numbering.{Regions, numbered}
use Rattle.laws.proofs.LiveRecords.{filter-each}
use Rattle.laws.proofs.Sums.{sum_le, sum_same}
use Rattle.space.specs.Space.{Frame}
use Rattle.space.proofs.Laws.{get_d_after}
use Rattle.table.specs.View.{start_of, end_of, rec_at, view, recs_of}
use Rattle.table.proofs.ViewLaws.{view-length, wide-same, recs_at, id_at_lem}
use Rattle.filter.specs.Group.{Calm}
use Rattle.pool.specs.Alike.{Joined}
use Rattle.pool.specs.Fixed.{merged_f}
use Rattle.numbering.specs.Number.{Column, Blank}
use Rattle.pool.specs.Pool.{len_at, count_at, Pool}
use Rattle.pool.specs.Forms.{LaidIn}
use Rattle.pool.proofs.BearerLaws.{bearers_start}
use Rattle.merge.specs.Ready.{Ready}
use Rattle.merge.specs.Rounds.{first_half, AtRest}
use Rattle.pool.proofs.MergeLaws.{Fresh, alike_start, merge_is}

count_at_lem : (ws : List ℕ) (m x : ℕ) → x < m → (at (recs_of ws m) x).count ≡ count_at ws m x
unfolding rec_at count_at
count_at_lem ws m x h = ap (λ (r : Rec). r.count) (recs_at ws m x h)

none-at : (ws : List ℕ) (m x : ℕ) → m ≤ x → (at (recs_of ws m) x).id ≡ 0
unfolding at recs_of fresh
none-at ws m x h = ap (λ (r : Rec). r.id) (get_or-eq_default (view ws m (7 * m) (11 * m)) (fresh 0) (rw (view-length ws m (7 * m) (11 * m)) h))

-- ---- what the filter keeps

seen_count : (n : ℕ) (r : Rec) → r.count ≤ n → (seen r).count ≤ n
unfolding seen
seen_count n r h = h

removed_count : (n : ℕ) (r : Rec) → (removed r).count ≤ n
unfolding removed
removed_count n r = omega arith

pub filter_counts : (least : ℕ) (rs : List Rec) (x : ℕ) → (at (filtered least rs) x).count ≤ (at rs x).count
filter_counts least rs =
    filter-each (λ x r. r.count ≤ (at rs x).count) (λ x r h. seen_count (at rs x).count r h) (λ x r _. removed_count (at rs x).count r) least rs (λ x. omega arith)

seen_own : (x : ℕ) (r : Rec) → ((r.id ≡ 0 → ⊥) → r.id ≡ x) → ((seen r).id ≡ 0 → ⊥) → (seen r).id ≡ x
unfolding seen
seen_own x r h = h

removed_own : (x : ℕ) (r : Rec) → ((removed r).id ≡ 0 → ⊥) → (removed r).id ≡ x
unfolding removed
removed_own x r h = absurd (h refl)

pub filter-fresh : (least : ℕ) (rs : List Rec) → Fresh rs → Fresh (filtered least rs)
filter-fresh least rs f = record { own = filter-each (λ x r. (r.id ≡ 0 → ⊥) → r.id ≡ x) seen_own (λ x r _. removed_own x r) least rs f.own }

-- ---- before the filter

module _ (m n : ℕ) (ws ids : List ℕ) (R : Ready m n ws ids) where
  pub ready_fresh : Fresh (recs_of ws m)
  ready_fresh = record {
    own = λ x z. elim (dec_lt x m) [
      | yes h ↦ id_at_lem ws m x h ∙ R.own x h (λ e. z (id_at_lem ws m x h ∙ e))
      | no h ↦ absurd (z (none-at ws m x (omega arith)))
    ];
  }

  -- ---- after it

  module _ (least : ℕ) (ws₁ : List ℕ) (e : recs_of ws₁ m ≡ filtered least (recs_of ws m)) (C : Calm m ws₁) (f : Frame 0 (5 * m) ws ws₁) (l : length ws₁ ≡ length ws) where
    start-same : (s r : ℕ) → 5 * m ≤ s → start_of ws₁ m s r ≡ start_of ws m s r
    start-same s r h = wide-same ws ws₁ m (s + r) (get_d_after (s + r) f (omega arith)) (get_d_after (s + r + m) f (omega arith))

    end_same : (s r : ℕ) → 5 * m ≤ s → end_of ws₁ m s r ≡ end_of ws m s r
    end_same s r h = wide-same ws ws₁ m (s + 2 * m + r) (get_d_after (s + 2 * m + r) f (omega arith)) (get_d_after (s + 2 * m + r + m) f (omega arith))

    len_same : (r : ℕ) → r < m → len_at ws₁ m r ≡ len_at ws m r
    unfolding len_at
    len_same r h = rw (start-same (7 * m) r (omega arith), end_same (7 * m) r (omega arith))

    counts_less : (x : ℕ) → x < m → count_at ws₁ m x ≤ count_at ws m x
    counts_less x h = omega (arith, count_at_lem ws₁ m x h, count_at_lem ws m x h, ap (λ (rs : List Rec). (at rs x).count) e, filter_counts least (recs_of ws m) x)

    fresh-after : Fresh (recs_of ws₁ m)
    fresh-after = rw e (filter-fresh least (recs_of ws m) ready_fresh)

    own_after : (x : ℕ) → x < m → (get_or ws₁ x 0 ≡ 0 → ⊥) → get_or ws₁ x 0 ≡ x
    own_after x g z = let i = id_at_lem ws₁ m x g in sym i ∙ fresh-after.own x (λ w. z (sym i ∙ w))

    none_named : (y : ℕ) → y < m → get_or ws₁ (6 * m + y) 0 ≡ 0
    none_named y g = let k : 6 * m + y ≡ 5 * m + (m + y) = omega arith in rw k (C.blank (m + y) (omega arith))

    pub filtered_pool : Pool m (4 * n) (16 * m) (16 * m + 4 * n) ws₁
    filtered_pool = record {
      held = C.held;
      halves = record {
        past = omega arith;
        past' = omega arith;
        apart = inl (omega arith);
        into = omega (arith, R.room);
        into' = omega (arith, R.room);
        fits = omega (arith, R.records, R.spans);
        fits' = omega (arith, R.records, R.spans);
      };
      from = λ r g. rw (start-same (7 * m) r (omega arith)) (R.from r g);
      upto = λ r g. rw (end_same (7 * m) r (omega arith)) (R.upto r g);
      floors = λ r g. rw (start-same (11 * m) r (omega arith)) (omega (arith, R.floors r g), omega (arith, R.floors r g));
      room = rw (sum_same (len_at ws₁ m) (len_at ws m) m len_same) R.lists;
      spans = omega (arith, R.counts, R.spans, sum_le (count_at ws m) (count_at ws₁ m) m counts_less);
      bearers = bearers_start m ws₁ own_after none_named;
      owns = λ x g z _. own_after x g z;
      blank = λ x g. C.blank x (omega arith);
    }

    -- the top is at the half's end, so nothing is said of how the lists lie
    pub filtered_laid : LaidIn m (first_half m n) ws₁
    filtered_laid = record {
      room = record {
        past = omega arith;
        past' = omega arith;
        into = omega (arith, R.room);
        floors = λ r g. rw (end_same (11 * m) r (omega arith)) (R.floored r g);
      };
      from = omega arith;
      upto = omega arith;
      below = λ w. absurd (omega arith);
      apart = λ w. absurd (omega arith);
      mentions = λ w. absurd (omega arith);
    }

    pub filtered-joined : Joined (recs_of ws₁ m)
    filtered-joined = record { rs = recs_of ws₁ m; alike = alike_start (recs_of ws₁ m) fresh-after }

    pub numbered_top : (area : ℕ) (ws₂ ids' : List ℕ) (k o u : ℕ) → recs_of ws₂ m ≡ merged_f area (suc m) (recs_of ws₁ m)
        → ◌≡◌ {A = Regions} (record { ids = ids'; most = k; over = o; cut = u }) (numbered (recs_of ws₂ m) ids)
        → ◌≡◌ {A = Regions} (record { ids = ids'; most = k; over = o; cut = u }) (numbered (merged area (suc m) (filtered least (recs_of ws m))) ids)
    numbered_top area ws₂ ids' k o u q d =
        d ∙ ap (λ (rs : List Rec). numbered rs ids) (q ∙ ap (merged_f area (suc m)) e)
        ∙ sym (merge_is area (suc m) (filtered least (recs_of ws m)) (filter-fresh least (recs_of ws m) ready_fresh) ids)

-- ---- before the numbering

module _ (m : ℕ) (ws : List ℕ) (C : AtRest m ws) where
  pub rest_column : Column m (5 * m) ws
  rest_column = record { room = omega (arith, C.held.lists.room); apart = omega arith; few = omega (arith, C.held.few); ids = C.held.ids }

  pub rest_blank : Blank m (5 * m) ws
  rest_blank = record { blank = C.blank }
