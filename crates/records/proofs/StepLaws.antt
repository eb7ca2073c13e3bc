-- A span adds one to its record, sets overlap, and gives its area: each a store in one column, so each is one step on the rule's records.
-- The rule's `counted` is these steps, the floors and the contour, one after the other.
use Prim.Native.Nat.{ℕ, ◌+◌, ◌*◌, ◌≤◌, ◌<◌}
use native.Mathlib.Omega.{arith}
use native.Mathlib.Numerals.{add-one}
use mathlib.Core.Path.{◌≡◌, refl, sym, ap, ◌∙◌}
use mathlib.Core.Bool.{Bool, true, false, not}
use mathlib.Core.List.{List}
use lib.ListN.{length, get_or, set, take}
use lib.Seq.{get_or-set_same, get_or-set_other, set-get_or}
use lib.Dec.{eqb}
use Rattle.rules.specs.Base.{◌or◌, when◌then◌else◌, many}
use Rattle.rules.specs.Growth.{plain}
use Rattle.rules.specs.Records.{Rec, at, fresh}
use Rattle.table.specs.View.{rec_at, recs_of}
use Rattle.table.proofs.ViewLaws.{rec_eq, recs_at}
use Rattle.laws.proofs.Basics.{or_yes}
use Rattle.records.specs.Rows.{walked, mine, Row, Keeping, Change, Step, plus_one, overlaid, marked, with_area}
use Rattle.records.proofs.CountLaws.{many-same, many_counts, many_passes, mine_yes, mine-other}
use Rattle.records.proofs.RowLaws.{list_parts, floor_parts, change_recs, change_keeping, store_start, store_end, store_list, store_change, store_walked, store_blank, store_after}

-- nothing happens
pub step-none : (f : Rec → Rec) (ids : List ℕ) (m r top k : ℕ) (ws : List ℕ) → Keeping ids m top k ws → f (at (recs_of ws m) r) ≡ at (recs_of ws m) r → Step f ids m r top k ws ws
unfolding at
step-none f ids m r top k ws K e = record {
  keeping = K;
  same = sym (ap (set (recs_of ws m) r) e ∙ set-get_or (recs_of ws m) r (fresh 0));
  size = refl;
  after = λ j _. refl;
}

pub overlaid-not : (x : Rec) → overlaid false x ≡ x
unfolding overlaid ◌or◌
overlaid-not x = go x.overlap refl
  where
    go : (b : Bool) → x.overlap ≡ b → overlaid false x ≡ x
    go true e = rw e
    go false e = rw e

module _ (ids : List ℕ) (m top k : ℕ) (ws : List ℕ) (K : Keeping ids m top k ws) (r : ℕ) (h : r < m) where
  -- a store in a column keeps record r's places
  store_row : (k' q v : ℕ) → q < 5 * m → get_or ws (m + r) 0 ≤ get_or (set ws q v) (m + r) 0 → get_or (set ws q v) (m + r) 0 ≡ many (mine r) (take k' ids) → Row ids m top k' r (set ws q v)
  store_row k' q v low up t =
      let R = K.rows r h in
      let a = store_start ids m top k ws K q v low (7 * m) r (omega arith) in
      let b = store_end ids m top k ws K q v low (7 * m) r (omega arith) in
      let a' = store_start ids m top k ws K q v low (11 * m) r (omega arith) in
      let b' = store_end ids m top k ws K q v low (11 * m) r (omega arith) in
      record {
        from = omega (arith, R.from);
        order = omega (arith, R.order);
        till = omega (arith, R.till);
        floors = a' ∙ R.floors;
        order' = omega (arith, R.order');
        till' = omega (arith, R.till');
        tally = t;
      }

  store_keeping : (k' q v : ℕ) → q < 5 * m → Change m r ws (set ws q v) → ((x : ℕ) → (x ≡ r → ⊥) → many (mine x) (take k' ids) ≡ many (mine x) (take k ids))
      → get_or ws (m + r) 0 ≤ get_or (set ws q v) (m + r) 0 → get_or (set ws q v) (m + r) 0 ≡ many (mine r) (take k' ids) → Keeping ids m top k' (set ws q v)
  store_keeping k' q v low C rest up t =
      change_keeping m r ws (set ws q v) C ids top top k k' K (omega arith) rest (store_row k' q v low up t)
      (rw (many-same (walked m ws) (walked m (set ws q v)) ids (store_walked ids m top k ws K q v low)) K.used)
      (store_blank ids m top k ws K q v low)

  -- one more span
  pub step-one : k < length ids → r ≡ get_or ids k 0 → plain (get_or ids k 0) ≡ true → Step plus_one ids m r top (k + 1) ws (set ws (m + r) (get_or ws (m + r) 0 + 1))
  unfolding plus_one rec_at
  step-one g e pl =
      let v = get_or ws (m + r) 0 + 1 in
      let q = m + r in
      let low : q < 5 * m = omega arith in
      let here : get_or (set ws q v) q 0 ≡ v = get_or-set_same ws q v 0 (omega (arith, K.room)) in
      let C = store_change ids m top k ws K q v low r (λ x l n. ((λ z. omega arith), (λ z. n (omega arith)), (λ z. omega arith), (λ z. omega arith), (λ z. omega arith))) in
      let more : many (mine r) (take (k + 1) ids) ≡ many (mine r) (take k ids) + 1 = many_counts (mine r) ids k g (rw (← e) (mine_yes r (rw e pl))) in
      record {
        keeping = store_keeping (k + 1) q v low C (λ x n. many_passes (mine x) ids k g (mine-other x (get_or ids k 0) (λ z. n (z ∙ sym e)))) (omega arith) (omega (arith, (K.rows r h).tally));
        same = change_recs m r ws (set ws q v) C _ h (
            rec_eq _ _ _ _ _ _ _ _ _ _ _ _ _ _ _ _
            (get_or-set_other ws q r v 0 (λ z. omega arith))
            (here ∙ add-one (get_or ws q 0))
            (get_or-set_other ws q (2 * m + r) v 0 (λ z. omega arith))
            (ap (λ (x : ℕ). not (eqb x 0)) (get_or-set_other ws q (4 * m + r) v 0 (λ z. omega arith)))
            (ap (λ (x : ℕ). not (eqb x 0)) (get_or-set_other ws q (3 * m + r) v 0 (λ z. omega arith)))
            (store_list ids m top k ws K q v low (7 * m) r h (list_parts ids m top k ws K))
            (store_list ids m top k ws K q v low (11 * m) r h (floor_parts ids m top k ws K))
            (ap (λ (x : ℕ). not (eqb x 0)) (get_or-set_other ws q (15 * m + r) v 0 (λ z. omega arith))))
            ∙ ap (λ (x : Rec). set (recs_of ws m) r (plus_one x)) (sym (recs_at ws m r h));
        size = C.size;
        after = store_after ids m top k ws K q v low;
      }

  -- a span of the same region above or below it
  pub step-over : Step (overlaid true) ids m r top k ws (set ws (3 * m + r) 1)
  unfolding overlaid rec_at ◌or◌
  step-over =
      let q = 3 * m + r in
      let low : q < 5 * m = omega arith in
      let here : get_or (set ws q 1) q 0 ≡ 1 = get_or-set_same ws q 1 0 (omega (arith, K.room)) in
      let cnt : get_or (set ws q 1) (m + r) 0 ≡ get_or ws (m + r) 0 = get_or-set_other ws q (m + r) 1 0 (λ z. omega arith) in
      let C = store_change ids m top k ws K q 1 low r (λ x l n. ((λ z. omega arith), (λ z. omega arith), (λ z. omega arith), (λ z. n (omega arith)), (λ z. omega arith))) in
      record {
        keeping = store_keeping k q 1 low C (λ x n. refl) (omega arith) (cnt ∙ (K.rows r h).tally);
        same = change_recs m r ws (set ws q 1) C _ h (
            rec_eq _ _ _ _ _ _ _ _ _ _ _ _ _ _ _ _
            (get_or-set_other ws q r 1 0 (λ z. omega arith))
            cnt
            (get_or-set_other ws q (2 * m + r) 1 0 (λ z. omega arith))
            (ap (λ (x : ℕ). not (eqb x 0)) (get_or-set_other ws q (4 * m + r) 1 0 (λ z. omega arith)))
            (ap (λ (x : ℕ). not (eqb x 0)) here ∙ sym (or_yes (not (eqb (get_or ws q 0) 0))))
            (store_list ids m top k ws K q 1 low (7 * m) r h (list_parts ids m top k ws K))
            (store_list ids m top k ws K q 1 low (11 * m) r h (floor_parts ids m top k ws K))
            (ap (λ (x : ℕ). not (eqb x 0)) (get_or-set_other ws q (15 * m + r) 1 0 (λ z. omega arith))))
            ∙ ap (λ (x : Rec). set (recs_of ws m) r (overlaid true x)) (sym (recs_at ws m r h));
        size = C.size;
        after = store_after ids m top k ws K q 1 low;
      }

  pub step-not-over : Step (overlaid false) ids m r top k ws ws
  step-not-over = step-none (overlaid false) ids m r top k ws K (overlaid-not (at (recs_of ws m) r))

  -- the area
  pub step_area : (a : ℕ) → Step (with_area a) ids m r top k ws (set ws (2 * m + r) a)
  unfolding with_area rec_at
  step_area a =
      let q = 2 * m + r in
      let low : q < 5 * m = omega arith in
      let here : get_or (set ws q a) q 0 ≡ a = get_or-set_same ws q a 0 (omega (arith, K.room)) in
      let cnt : get_or (set ws q a) (m + r) 0 ≡ get_or ws (m + r) 0 = get_or-set_other ws q (m + r) a 0 (λ z. omega arith) in
      let C = store_change ids m top k ws K q a low r (λ x l n. ((λ z. omega arith), (λ z. omega arith), (λ z. n (omega arith)), (λ z. omega arith), (λ z. omega arith))) in
      record {
        keeping = store_keeping k q a low C (λ x n. refl) (omega arith) (cnt ∙ (K.rows r h).tally);
        same = change_recs m r ws (set ws q a) C _ h (
            rec_eq _ _ _ _ _ _ _ _ _ _ _ _ _ _ _ _
            (get_or-set_other ws q r a 0 (λ z. omega arith))
            cnt
            here
            (ap (λ (x : ℕ). not (eqb x 0)) (get_or-set_other ws q (4 * m + r) a 0 (λ z. omega arith)))
            (ap (λ (x : ℕ). not (eqb x 0)) (get_or-set_other ws q (3 * m + r) a 0 (λ z. omega arith)))
            (store_list ids m top k ws K q a low (7 * m) r h (list_parts ids m top k ws K))
            (store_list ids m top k ws K q a low (11 * m) r h (floor_parts ids m top k ws K))
            (ap (λ (x : ℕ). not (eqb x 0)) (get_or-set_other ws q (15 * m + r) a 0 (λ z. omega arith))))
            ∙ ap (λ (x : Rec). set (recs_of ws m) r (with_area a x)) (sym (recs_at ws m r h));
        size = C.size;
        after = store_after ids m top k ws K q a low;
      }

-- ---------------------------------------------------------------- as the code has it

-- overlap as the code sets it
module _ (ws : List ℕ) (m r : ℕ) (b : Bool) where
  pub mark_set : b ≡ true → set ws (3 * m + r) 1 ≡ marked m r b ws
  unfolding marked when◌then◌else◌
  mark_set t = rw t

  pub mark_left : b ≡ false → ws ≡ marked m r b ws
  unfolding marked when◌then◌else◌
  mark_left f = rw f

pub step-marked : (b : Bool) (ids : List ℕ) (m top k : ℕ) (ws : List ℕ) → Keeping ids m top k ws → (r : ℕ) → r < m → Step (overlaid b) ids m r top k ws (marked m r b ws)
unfolding marked when◌then◌else◌
step-marked true ids m top k ws K r h = step-over ids m top k ws K r h
step-marked false ids m top k ws K r h = step-not-over ids m top k ws K r h
