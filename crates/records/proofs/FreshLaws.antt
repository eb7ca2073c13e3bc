-- New records: the spans of each id are counted, and then each record in turn gets its room for floors after those before it.
-- Where a record's room begins is how many spans have a lower id (`slot_next`).
use Prim.Native.Nat.{ℕ, ◌+◌, ◌*◌, ◌≤◌, ◌<◌}
use native.Mathlib.Omega.{arith}
use native.Mathlib.Decide.{ℕ_discrete, dec_lt}
use mathlib.Core.Path.{◌≡◌, refl, sym, ap, ◌∙◌}
use mathlib.Core.Logic.{⊎_elim, inr}
use mathlib.Core.List.{List}
use lib.ListN.{length, get_or, set, length-set}
use lib.Seq.{get_or-set_same, get_or-set_other}
use lib.Dec.{eqb}
use borrow.Author.Tests.{eq-eqb, ne_eqb, lt-ltb, le-ltb}
use Rattle.rules.specs.Base.{when◌then◌else◌, many}
use Rattle.rules.specs.Refusals.{most_spans}
use Rattle.laws.proofs.Basics.{many_le}
use Rattle.space.proofs.Laws.{get_or_before, get_d_after}
use Rattle.table.specs.View.{start_of, end_of, Placed}
use Rattle.table.proofs.ViewLaws.{wide-same}
use Rattle.table.specs.Map.{border}
use Rattle.records.specs.Rows.{slot, floors_at}
use Rattle.records.specs.Fresh.{tally_one, Tallied, Renewed}
use Rattle.records.specs.Stock.{Blank}
use Rattle.records.proofs.CountLaws.{many_counts, many_passes, many-take_le, many_all, many-none, slot_next, slot_room}

-- ---------------------------------------------------------------- the spans of each id

module _ (m r : ℕ) (ws : List ℕ) where
  pub tally_past : m ≤ r → ws ≡ tally_one m r ws
  unfolding tally_one when◌then◌else◌
  tally_past h = rw (le-ltb r m h)

  pub tally_below : r < m → set ws (m + r) (get_or ws (m + r) 0 + 1) ≡ tally_one m r ws
  unfolding tally_one when◌then◌else◌
  tally_below h = rw (lt-ltb r m h)

pub tallied_start : (ids : List ℕ) (m : ℕ) (ws : List ℕ) → Blank ids m ws → Tallied ids m 0 ws ws
tallied_start ids m ws B = record {
  low = omega arith;
  size = refl;
  counts = λ i h. B.zeros (m + i) (omega arith) ∙ sym (many-none (eqb i) ids);
  rest = λ j _. refl;
}

module _ (ids : List ℕ) (m k : ℕ) (ws₀ ws : List ℕ) (T : Tallied ids m k ws₀ ws) (h : k < length ids) where
  pub tally_fits : Blank ids m ws₀ → (r : ℕ) → (2 * m ≤ length ws) × (m ≤ border) × (r < m → get_or ws (m + r) 0 < 65535)
  tally_fits B r = (omega (arith, T.size, B.room), B.few, λ g. omega (arith, T.counts r g, many-take_le (eqb r) ids k, many_le (eqb r) ids, B.spans))

  pub tallied_next : (ws' : List ℕ) (r : ℕ) → r ≡ get_or ids k 0 → 2 * m ≤ length ws → ws' ≡ tally_one m r ws → Tallied ids m (k + 1) ws₀ ws'
  tallied_next ws' r er l e =
      elim (dec_lt r m) [
        | yes g ↦ (let q : ws' ≡ set ws (m + r) (get_or ws (m + r) 0 + 1) = e ∙ sym (tally_below m r ws g) in rw q (record {
          low = omega arith;
          size = length-set ws (m + r) (get_or ws (m + r) 0 + 1) ∙ T.size;
          counts = λ i d. elim (ℕ_discrete i r) [
            | yes z ↦ rw z (get_or-set_same ws (m + r) (get_or ws (m + r) 0 + 1) 0 (omega arith) ∙ ap (λ (x : ℕ). x + 1) (T.counts r g) ∙ sym (many_counts (eqb r) ids k h (eq-eqb r (get_or ids k 0) er)))
            | no z ↦ get_or-set_other ws (m + r) (m + i) (get_or ws (m + r) 0 + 1) 0 (λ y. z (omega arith)) ∙ T.counts i d ∙ sym (many_passes (eqb i) ids k h (ne_eqb i (get_or ids k 0) (λ y. z (y ∙ sym er))))
          ];
          rest = λ j d. get_or-set_other ws (m + r) j (get_or ws (m + r) 0 + 1) 0 (λ y. ⊎_elim (λ (a : j < m). omega arith) (λ (a : 2 * m ≤ j). omega arith) d) ∙ T.rest j d;
        }))
        | no g ↦ (let q : ws' ≡ ws = e ∙ sym (tally_past m r ws (omega arith)) in rw q (record {
          low = omega arith;
          size = T.size;
          counts = λ i d. T.counts i d ∙ sym (many_passes (eqb i) ids k h (ne_eqb i (get_or ids k 0) (λ (y : i ≡ get_or ids k 0). omega arith)));
          rest = T.rest;
        }))
      ]

pub tallied_end : (ids : List ℕ) (m k : ℕ) (ws₀ ws : List ℕ) → Tallied ids m k ws₀ ws → length ids ≤ k → Tallied ids m (length ids) ws₀ ws
tallied_end ids m k ws₀ ws T h = let e : k ≡ length ids = omega (arith, T.low) in rw e at T

-- ---------------------------------------------------------------- the records

pub renewed_start : (ids : List ℕ) (m : ℕ) (ws₀ ws : List ℕ) → Blank ids m ws₀ → Tallied ids m (length ids) ws₀ ws → Renewed ids m 0 ws₀ ws
renewed_start ids m ws₀ ws B T = record {
  low = omega arith;
  size = T.size;
  names = λ j h. absurd (omega arith);
  empty = λ j h. absurd (omega arith);
  counts = λ j _ h. T.counts j h ∙ many_all (eqb j) ids (length ids) refl;
  lists = λ j h. absurd (omega arith);
  floors = λ j h. absurd (omega arith);
  columns = λ j h g. T.rest j (inr h) ∙ B.zeros j (omega arith);
  pool = λ j h g. T.rest j (inr (let z : 2 * m ≤ j = omega arith in z)) ∙ B.zeros j g;
  after = λ j h. T.rest j (inr (let z : 2 * m ≤ j = omega arith in z));
}

-- from a later list on, what held before holds with it as the first
pub renewed_here : (ids : List ℕ) (m i : ℕ) (ws₀ ws : List ℕ) → Renewed ids m i ws₀ ws → Renewed ids m i ws ws
renewed_here ids m i ws₀ ws R = record { low = R.low; size = refl; names = R.names; empty = R.empty; counts = R.counts; lists = R.lists; floors = R.floors; columns = R.columns; pool = R.pool; after = λ j h. refl }

pub renewed_then : (ids : List ℕ) (m i j : ℕ) (ws₀ ws ws' : List ℕ) → Renewed ids m i ws₀ ws → Renewed ids m j ws ws' → Renewed ids m j ws₀ ws'
renewed_then ids m i j ws₀ ws ws' P R = record { low = R.low; size = R.size ∙ P.size; names = R.names; empty = R.empty; counts = R.counts; lists = R.lists; floors = R.floors; columns = R.columns; pool = R.pool; after = λ x h. R.after x h ∙ P.after x h }

module _ (ids : List ℕ) (m i : ℕ) (ws : List ℕ) (R : Renewed ids m i ws ws) (h : i < m) (q before : ℕ) (eb : before ≡ slot ids i) (eq : q ≡ 16 * m + 8 * length ids + 62 * before)
    (few : m ≤ border) (spans : length ids ≤ most_spans) (room : 16 * m + 70 * length ids ≤ length ws) where
  at_floors : q ≡ floors_at ids m i
  unfolding floors_at
  at_floors = rw (eq, eb)

  pub floors_fit : q < 4294967296
  floors_fit = omega (arith, slot_room ids i)

  module _ (ws₁ ws₂ ws₃ : List ℕ) (e₁ : ws₁ ≡ set (set ws i i) (m + i) 0) (P : Placed m (7 * m) i (16 * m) (16 * m) ws₁ ws₂) (l₂ : length ws₂ ≡ length ws₁)
      (Q : Placed m (11 * m) i q q ws₂ ws₃) (l₃ : length ws₃ ≡ length ws₂) where
    len₁ : length ws₁ ≡ length ws
    len₁ = rw e₁ (length-set (set ws i i) (m + i) 0 ∙ length-set ws i i)

    store_other : (j : ℕ) → (j ≡ i → ⊥) → (j ≡ m + i → ⊥) → get_or ws₁ j 0 ≡ get_or ws j 0
    store_other j a b = rw e₁ (get_or-set_other (set ws i i) (m + i) j 0 0 b ∙ get_or-set_other ws i j i 0 a)

    low : (j : ℕ) → j < 7 * m → get_or ws₃ j 0 ≡ get_or ws₁ j 0
    low j g = get_or_before j Q.kept (omega arith) ∙ get_or_before j P.kept g

    past : (j : ℕ) → 15 * m ≤ j → get_or ws₃ j 0 ≡ get_or ws j 0
    past j g = get_d_after j Q.kept (omega arith) ∙ get_d_after j P.kept (omega arith) ∙ store_other j (λ z. omega arith) (λ z. omega arith)

    start₇ : (x : ℕ) → x < m → start_of ws₃ m (7 * m) x ≡ start_of ws₂ m (7 * m) x
    start₇ x g = wide-same ws₂ ws₃ m (7 * m + x) (get_or_before (7 * m + x) Q.kept (omega arith)) (get_or_before (7 * m + x + m) Q.kept (omega arith))

    stop₇ : (x : ℕ) → x < m → end_of ws₃ m (7 * m) x ≡ end_of ws₂ m (7 * m) x
    stop₇ x g = wide-same ws₂ ws₃ m (7 * m + 2 * m + x) (get_or_before (7 * m + 2 * m + x) Q.kept (omega arith)) (get_or_before (7 * m + 2 * m + x + m) Q.kept (omega arith))

    same₁ : (a x : ℕ) → 7 * m ≤ a → start_of ws₁ m a x ≡ start_of ws m a x
    same₁ a x g = wide-same ws ws₁ m (a + x) (store_other (a + x) (λ z. omega arith) (λ z. omega arith)) (store_other (a + x + m) (λ z. omega arith) (λ z. omega arith))

    same₁' : (a x : ℕ) → 7 * m ≤ a → end_of ws₁ m a x ≡ end_of ws m a x
    same₁' a x g = wide-same ws ws₁ m (a + 2 * m + x) (store_other (a + 2 * m + x) (λ z. omega arith) (λ z. omega arith)) (store_other (a + 2 * m + x + m) (λ z. omega arith) (λ z. omega arith))

    start₁₁ : (x : ℕ) → x < m → start_of ws₂ m (11 * m) x ≡ start_of ws₁ m (11 * m) x
    start₁₁ x g = wide-same ws₁ ws₂ m (11 * m + x) (get_d_after (11 * m + x) P.kept (omega arith)) (get_d_after (11 * m + x + m) P.kept (omega arith))

    stop₁₁ : (x : ℕ) → x < m → end_of ws₂ m (11 * m) x ≡ end_of ws₁ m (11 * m) x
    stop₁₁ x g = wide-same ws₁ ws₂ m (11 * m + 2 * m + x) (get_d_after (11 * m + 2 * m + x) P.kept (omega arith)) (get_d_after (11 * m + 2 * m + x + m) P.kept (omega arith))

    pub renewed_one : Renewed ids m (i + 1) ws ws₃
    renewed_one = record {
      low = omega arith;
      size = l₃ ∙ l₂ ∙ len₁;
      names = λ j g. low j (omega arith) ∙ elim (ℕ_discrete j i) [
        | yes z ↦ rw (z, e₁) (get_or-set_other (set ws i i) (m + i) i 0 0 (λ y. omega arith) ∙ get_or-set_same ws i i 0 (omega arith))
        | no z ↦ store_other j z (λ y. omega arith) ∙ R.names j (omega arith)
      ];
      empty = λ j g. low (m + j) (omega arith) ∙ elim (ℕ_discrete j i) [
        | yes z ↦ rw (z, e₁) (get_or-set_same (set ws i i) (m + i) 0 0 (rw (length-set ws i i) (omega arith)))
        | no z ↦ store_other (m + j) (λ y. omega arith) (λ y. z (omega arith)) ∙ R.empty j (omega arith)
      ];
      counts = λ j g d. low (m + j) (omega arith) ∙ store_other (m + j) (λ y. omega arith) (λ y. omega arith) ∙ R.counts j (omega arith) d;
      lists = λ j g. elim (ℕ_discrete j i) [
        | yes z ↦ rw z (start₇ i h ∙ P.start, stop₇ i h ∙ P.stop)
        | no z ↦ (let r = R.lists j (omega arith) in let d : j < m = omega arith in
            (start₇ j d ∙ P.starts j d z ∙ same₁ (7 * m) j (omega arith) ∙ r.0, stop₇ j d ∙ P.stops j d z ∙ same₁' (7 * m) j (omega arith) ∙ r.1))
      ];
      floors = λ j g. elim (ℕ_discrete j i) [
        | yes z ↦ rw z (Q.start ∙ at_floors, Q.stop ∙ at_floors)
        | no z ↦ (let r = R.floors j (omega arith) in let d : j < m = omega arith in
            (Q.starts j d z ∙ start₁₁ j d ∙ same₁ (11 * m) j (omega arith) ∙ r.0, Q.stops j d z ∙ stop₁₁ j d ∙ same₁' (11 * m) j (omega arith) ∙ r.1))
      ];
      columns = λ j g d. low j d ∙ store_other j (λ y. omega arith) (λ y. omega arith) ∙ R.columns j g d;
      pool = λ j g d. past j g ∙ R.pool j g d;
      after = λ j g. past j (omega arith) ∙ R.after j g;
    }

pub renewed_end : (ids : List ℕ) (m i : ℕ) (ws₀ ws : List ℕ) → Renewed ids m i ws₀ ws → m ≤ i → Renewed ids m m ws₀ ws
renewed_end ids m i ws₀ ws R h = let e : i ≡ m = omega (arith, R.low) in rw e at R

pub lower_next : (ids : List ℕ) (i lower k : ℕ) → lower ≡ slot ids i → k ≡ many (eqb i) ids → lower + k ≡ slot ids (i + 1)
lower_next ids i lower k e f = omega (arith, slot_next ids i)
