-- The records while they are built: a change of one leaves the others, so the rule's list of records changes at one place.
-- Columns, tables, pool and floors lie apart, and so do the rooms of two records' floors.
use Prim.Native.Nat.{ℕ, ◌+◌, ◌*◌, ◌≤◌, ◌<◌}
use native.Mathlib.Omega.{arith}
use native.Mathlib.Decide.{ℕ_discrete, dec_lt}
use mathlib.Core.Path.{◌≡◌, sym, ap, ◌∙◌}
use mathlib.Core.List.{List}
use lib.ListN.{length, get_or, set, take, length-set}
use lib.Seq.{get_or-set_same, get_or-set_other, set-set}
use lib.Dec.{eqb}
use borrow.Author.Tests.{le-ltb}
use Rattle.rules.specs.Base.{◌and◌, many}
use Rattle.rules.specs.Records.{Rec, at, fresh}
use Rattle.laws.proofs.Basics.{many_le}
use Rattle.table.specs.View.{start_of, end_of, list_at, rec_at, view, recs_of, Parts}
use Rattle.table.proofs.ViewLaws.{view-length, view-set, rec_same, list_same, wide-same}
use Rattle.records.specs.Rows.{floors_at, walked, mine, Row, Keeping, Change, Step}
use Rattle.records.proofs.CountLaws.{slot_room, slot_apart, many-take_le, mine_le}

-- ---------------------------------------------------------------- what lies where

module _ (ids : List ℕ) (m top k : ℕ) (ws : List ℕ) (K : Keeping ids m top k ws) where
  pub pool_fits : top ≤ 4 * length ids
  pool_fits = omega (arith, K.used, many_le (walked m ws) ids)

  -- record i's count is at most what its id's spans are
  pub count_room : (i : ℕ) → i < m → get_or ws (m + i) 0 ≤ many (eqb i) ids
  count_room i h = omega (arith, (K.rows i h).tally, many-take_le (mine i) ids k, mine_le i ids)

  -- record i's floors lie in the workspace, past the pool
  pub floors_past : (i : ℕ) → i < m → 16 * m + 8 * length ids ≤ start_of ws m (11 * m) i
  unfolding floors_at
  floors_past i h = omega (arith, (K.rows i h).floors)

  pub floors_inside : (i : ℕ) → i < m → start_of ws m (11 * m) i + 62 * get_or ws (m + i) 0 ≤ 16 * m + 70 * length ids
  unfolding floors_at
  floors_inside i h = omega (arith, (K.rows i h).floors, count_room i h, slot_room ids i)

  -- the floors of two records lie apart
  pub floors_apart : (i j : ℕ) → i < m → j < m → i < j → start_of ws m (11 * m) i + 62 * get_or ws (m + i) 0 ≤ start_of ws m (11 * m) j
  unfolding floors_at
  floors_apart i j h g l = omega (arith, (K.rows i h).floors, (K.rows j g).floors, count_room i h, slot_apart ids i j l)

  pub list_parts : Parts m (7 * m) ws
  list_parts = record {
    room = omega (arith, K.room);
    past = omega arith;
    order = λ r h. (K.rows r h).order;
    within = λ r h. omega (arith, (K.rows r h).till, pool_fits, K.room);
    far = λ r h. omega (arith, (K.rows r h).from);
  }

  pub floor_parts : Parts m (11 * m) ws
  floor_parts = record {
    room = omega (arith, K.room);
    past = omega arith;
    order = λ r h. (K.rows r h).order';
    within = λ r h. omega (arith, (K.rows r h).till', floors_inside r h, K.room);
    far = λ r h. omega (arith, floors_past r h);
  }

-- ---------------------------------------------------------------- a change of one record

module _ (m r : ℕ) (ws ws' : List ℕ) (C : Change m r ws ws') where
  rec_other : (x : ℕ) → x < m → (x ≡ r → ⊥) → rec_at ws' m (7 * m) (11 * m) x ≡ rec_at ws m (7 * m) (11 * m) x
  rec_other x h n =
      rec_same ws ws' m (7 * m) (11 * m) x (C.names x h n) (C.counts x h n) (C.areas x h n) (C.overlaps x h n) (C.visits x h n) (C.lists x h n) (C.floors x h n)
      (C.cuts x h n)

  pub change_recs : (y : Rec) → r < m → rec_at ws' m (7 * m) (11 * m) r ≡ y → recs_of ws' m ≡ set (recs_of ws m) r y
  unfolding recs_of
  change_recs y h e = view-set ws ws' m (7 * m) (11 * m) r y h e rec_other

  pub walked-other : (x : ℕ) → (x ≡ r → ⊥) → walked m ws' x ≡ walked m ws x
  unfolding walked ◌and◌
  walked-other x n = elim (dec_lt x m) [ yes h ↦ rw (C.starts x h n, C.stops x h n) | no h ↦ rw (le-ltb x m (omega arith)) ]

  module _ (ids : List ℕ) (top top' k k' : ℕ) (K : Keeping ids m top k ws) (up : top ≤ top') (rest : (x : ℕ) → (x ≡ r → ⊥) → many (mine x) (take k' ids) ≡ many (mine x) (take k ids)) where
    row_other : (x : ℕ) → x < m → (x ≡ r → ⊥) → Row ids m top' k' x ws'
    row_other x h n =
        let R = K.rows x h in
        let a = C.starts x h n in
        let b = C.stops x h n in
        let a' = C.starts' x h n in
        let b' = C.stops' x h n in
        let c = C.counts x h n in
        record {
          from = omega (arith, R.from);
          order = omega (arith, R.order);
          till = omega (arith, R.till);
          floors = a' ∙ R.floors;
          order' = omega (arith, R.order');
          till' = omega (arith, R.till');
          tally = c ∙ R.tally ∙ sym (rest x n);
        }

    pub change_keeping : Row ids m top' k' r ws' → top' ≤ 4 * many (walked m ws') ids
        → ((j : ℕ) → 16 * m + top' ≤ j → j < 16 * m + 8 * length ids → get_or ws' j 0 ≡ 0) → Keeping ids m top' k' ws'
    change_keeping row us bl = record {
      few = K.few;
      spans = K.spans;
      room = omega (arith, K.room, C.size);
      below = K.below;
      rows = λ i h. elim (ℕ_discrete i r) [ yes z ↦ rw z row | no z ↦ row_other i h z ];
      used = us;
      blank = bl;
      spare = λ x h. C.spare x h ∙ K.spare x h;
    }

-- a step and another
pub step_then : (f g : Rec → Rec) (ids : List ℕ) (m r top top' k k' : ℕ) (ws ws₁ ws₂ : List ℕ) → r < m
    → Step f ids m r top k ws ws₁ → Step g ids m r top' k' ws₁ ws₂ → Step (λ x. g (f x)) ids m r top' k' ws ws₂
unfolding recs_of at
step_then f g ids m r top top' k k' ws ws₁ ws₂ h p q =
    let l = view ws m (7 * m) (11 * m) in
    let y = f (get_or l r (fresh 0)) in
    let e : get_or (set l r y) r (fresh 0) ≡ y = get_or-set_same l r y (fresh 0) (rw (view-length ws m (7 * m) (11 * m)) h) in
    record {
      keeping = q.keeping;
      same = q.same ∙ ap (λ (a : List Rec). set a r (g (get_or a r (fresh 0)))) p.same ∙ ap (λ (z : Rec). set (set l r y) r (g z)) e ∙ set-set l r y (g y);
      size = q.size ∙ p.size;
      after = λ j b. q.after j b ∙ p.after j b;
    }

-- ---------------------------------------------------------------- a store in a column

module _ (ids : List ℕ) (m top k : ℕ) (ws : List ℕ) (K : Keeping ids m top k ws) (q v : ℕ) (low : q < 5 * m) where
  past_set : (j : ℕ) → 5 * m ≤ j → get_or (set ws q v) j 0 ≡ get_or ws j 0
  past_set j h = get_or-set_other ws q j v 0 (λ e. omega arith)

  pub store_start : (s x : ℕ) → 5 * m ≤ s → start_of (set ws q v) m s x ≡ start_of ws m s x
  store_start s x h = wide-same ws (set ws q v) m (s + x) (past_set (s + x) (omega arith)) (past_set (s + x + m) (omega arith))

  pub store_end : (s x : ℕ) → 5 * m ≤ s → end_of (set ws q v) m s x ≡ end_of ws m s x
  store_end s x h = wide-same ws (set ws q v) m (s + 2 * m + x) (past_set (s + 2 * m + x) (omega arith)) (past_set (s + 2 * m + x + m) (omega arith))

  pub store_list : (s x : ℕ) → x < m → Parts m s ws → list_at (set ws q v) m s x ≡ list_at ws m s x
  store_list s x h p =
      list_same ws (set ws q v) m s x (store_start s x (omega (arith, p.past))) (store_end s x (omega (arith, p.past))) (p.order x h) (p.within x h) (length-set ws q v)
      (λ j a b. past_set j (omega (arith, p.far x h)))

  pub store_change : (r : ℕ) → ((x : ℕ) → x < m → (x ≡ r → ⊥) → (x ≡ q → ⊥) × (m + x ≡ q → ⊥) × (2 * m + x ≡ q → ⊥) × (3 * m + x ≡ q → ⊥) × (4 * m + x ≡ q → ⊥)) → Change m r ws (set ws q v)
  store_change r apart = record {
    size = length-set ws q v;
    names = λ x h n. get_or-set_other ws q x v 0 (apart x h n).0;
    counts = λ x h n. get_or-set_other ws q (m + x) v 0 (apart x h n).1;
    areas = λ x h n. get_or-set_other ws q (2 * m + x) v 0 (apart x h n).2;
    overlaps = λ x h n. get_or-set_other ws q (3 * m + x) v 0 (apart x h n).3;
    visits = λ x h n. get_or-set_other ws q (4 * m + x) v 0 (apart x h n).4;
    starts = λ x h n. store_start (7 * m) x (omega arith);
    stops = λ x h n. store_end (7 * m) x (omega arith);
    starts' = λ x h n. store_start (11 * m) x (omega arith);
    stops' = λ x h n. store_end (11 * m) x (omega arith);
    lists = λ x h n. store_list (7 * m) x h (list_parts ids m top k ws K);
    floors = λ x h n. store_list (11 * m) x h (floor_parts ids m top k ws K);
    cuts = λ x h n. past_set (15 * m + x) (omega arith);
    spare = λ x h. past_set (5 * m + x) (omega arith);
  }

  pub store_walked : (x : ℕ) → walked m (set ws q v) x ≡ walked m ws x
  unfolding walked
  store_walked x = rw (store_start (7 * m) x (omega arith), store_end (7 * m) x (omega arith))

  pub store_blank : (j : ℕ) → 16 * m + top ≤ j → j < 16 * m + 8 * length ids → get_or (set ws q v) j 0 ≡ 0
  store_blank j a b = past_set j (omega arith) ∙ K.blank j a b

  pub store_after : (j : ℕ) → 16 * m + 70 * length ids ≤ j → get_or (set ws q v) j 0 ≡ get_or ws j 0
  store_after j a = past_set j (omega arith)
