-- "On an open field the raw value at (x,z) is exactly twice the least of x, z, w−1−x and h−1−z."
-- Not less, as no move of the passes lessens that least by more than 1. Not more, as pass 1 comes from the left and from above, from an edge that
-- started with 0, and pass 2 from the right and from below.
use Prim.Native.Nat.{ℕ, suc, ◌+◌, ◌*◌, ◌-◌, ◌/◌, ◌≤◌, ◌<◌, min}
use native.Mathlib.Omega.{arith}
use native.Mathlib.Nat.{le-mul_of_pos_right, suc-mul}
use native.Mathlib.Decide.{dec_lt}
use mathlib.Core.Path.{◌≡◌, refl, ◌∙◌}
use mathlib.Core.List.{List}
use lib.ListN.{length, get_or, get_or-eq_default}
use borrow.Author.Tests.{ltb-true, ltb-false}
use Rattle.rules.specs.Field.{Field, spans, near}
use Rattle.rules.specs.Open.{flat, open_field}
use Rattle.rules.specs.Distance.{start_at, start, far, least_of, lower, pass1, pass2, raw}
use Rattle.laws.proofs.Basics.{if-ind, upto-ind, get_d_set_at, get_d_any}
use Rattle.laws.proofs.Lengths.{start-length, lower-length, raw-length}
use Rattle.laws.proofs.Passes.{same_le, start-at}
use Rattle.meaning.specs.Open.{span_at, least}
use Rattle.meaning.proofs.Passes.{lower_lowers, lower-near}
use Rattle.meaning.proofs.OpenField.{Marks, in_field, open_none, open_spans_lem, to_left, to_down, to_right, to_up, same_left, same_down, same-right, same_up, only_span}

-- ---------------------------------------------------------------- the least of four

four : (a b c d : ℕ) → (min (min a b) (min c d) ≤ a) × (min (min a b) (min c d) ≤ b) × (min (min a b) (min c d) ≤ c) × (min (min a b) (min c d) ≤ d)
four a b c d = (omega arith, omega arith, omega arith, omega arith)

four_above : (a b c d m : ℕ) → m ≤ a → m ≤ b → m ≤ c → m ≤ d → m ≤ min (min a b) (min c d)
four_above a b c d m e f g h = omega arith

module _ (w h x z : ℕ) where
  least_below : x < w → z < h → (least w h x z ≤ x) × (least w h x z ≤ z) × (least w h x z + x < w) × (least w h x z + z < h)
  unfolding least
  least_below p q = let r = four x z (w - 1 - x) (h - 1 - z) in (r.0, r.1, add_below w x _ p r.2, add_below h z _ q r.3)
    where
      add_below : (w x m : ℕ) → x < w → m ≤ w - 1 - x → m + x < w
      add_below w x m p e = omega arith

  least_above : (m : ℕ) → m ≤ x → m ≤ z → m + x < w → m + z < h → m ≤ least w h x z
  unfolding least
  least_above m a b c d = four_above x z (w - 1 - x) (h - 1 - z) m a b (sub_above w x m c) (sub_above h z m d)
    where
      sub_above : (w x m : ℕ) → m + x < w → m ≤ w - 1 - x
      sub_above w x m e = omega arith

-- a move of one column, one row or both lessens it by at most 1
least-within : (w h x z y u : ℕ) → x < w → z < h → x ≤ suc y → y ≤ suc x → z ≤ suc u → u ≤ suc z → least w h x z ≤ suc (least w h y u)
least-within w h x z y u p q a b c d =
    let r = least_below w h x z p q in
    elim (dec_lt 0 (least w h x z)) [
      | no g ↦ omega arith
      | yes g ↦ let m = least_above w h y u (least w h x z - 1) (omega arith) (omega arith) (omega arith) (omega arith) in omega arith
    ]

module _ (w h : ℕ) (few : w * h ≤ 65535) where
  abbrev O : Field
  O = open_field w h

  small : (x z : ℕ) → x < w → z < h → 2 * least w h x z ≤ 65535
  small x z p q = omega (arith, least_below w h x z p q, le-mul_of_pos_right {m = h} w (omega arith))

  -- ---------------------------------------------------------------- not less

  -- what both passes keep
  record Kept (l : List ℕ) : Type 0 where
    size : length l ≡ w * h
    high : (x z : ℕ) → x < w → z < h → 2 * least w h x z ≤ far l (span_at w x z)
    edge : (x z : ℕ) → x < w → z < h → least w h x z ≡ 0 → far l (span_at w x z) ≡ 0

  module _ (l : List ℕ) (v : Kept l) where
    far_none : far l 65535 ≡ 65535
    far_none = get_or-eq_default l 65535 (omega (arith, v.size))

    module _ (x z : ℕ) (p : x < w) (q : z < h) where
      high_left : 2 * least w h x z ≤ far l (near O (span_at w x z) 0) + 2
      high_left =
          to_left w h few (λ t. 2 * least w h x z ≤ far l t + 2) x z p q
          (λ _. omega (arith, small x z p q, far_none)) (λ y e. omega (arith, v.high y z (omega arith) q, least-within w h x z y z p q (omega arith) (omega arith) (omega arith) (omega arith)))

      high_down : 2 * least w h x z ≤ far l (near O (span_at w x z) 1) + 2
      high_down =
          to_down w h few (λ t. 2 * least w h x z ≤ far l t + 2) x z p q
          (λ _. omega (arith, small x z p q, far_none)) (λ e. omega (arith, v.high x (suc z) p e, least-within w h x z x (suc z) p q (omega arith) (omega arith) (omega arith) (omega arith)))

      high_right : 2 * least w h x z ≤ far l (near O (span_at w x z) 2) + 2
      high_right =
          to_right w h few (λ t. 2 * least w h x z ≤ far l t + 2) x z p q
          (λ _. omega (arith, small x z p q, far_none)) (λ e. omega (arith, v.high (suc x) z e q, least-within w h x z (suc x) z p q (omega arith) (omega arith) (omega arith) (omega arith)))

      high_up : 2 * least w h x z ≤ far l (near O (span_at w x z) 3) + 2
      high_up =
          to_up w h few (λ t. 2 * least w h x z ≤ far l t + 2) x z p q
          (λ _. omega (arith, small x z p q, far_none)) (λ y e. omega (arith, v.high x y p (omega arith), least-within w h x z x y p q (omega arith) (omega arith) (omega arith) (omega arith)))

      corner-none : (d : ℕ) → 2 * least w h x z ≤ far l (near O 65535 d) + 3
      corner-none d = rw (open_none w h few d) (omega (arith, small x z p q, far_none))

      high_left-up : 2 * least w h x z ≤ far l (near O (near O (span_at w x z) 0) 3) + 3
      high_left-up =
          to_left w h few (λ t. 2 * least w h x z ≤ far l (near O t 3) + 3) x z p q (λ _. corner-none 3)
          (λ y e. to_up w h few (λ t. 2 * least w h x z ≤ far l t + 3) y z (omega arith) q
          (λ _. omega (arith, small x z p q, far_none)) (λ u f. omega (arith, v.high y u (omega arith) (omega arith), least-within w h x z y u p q (omega arith) (omega arith) (omega arith) (omega arith))))

      high_up-right : 2 * least w h x z ≤ far l (near O (near O (span_at w x z) 3) 2) + 3
      high_up-right =
          to_up w h few (λ t. 2 * least w h x z ≤ far l (near O t 2) + 3) x z p q (λ _. corner-none 2)
          (λ y e. to_right w h few (λ t. 2 * least w h x z ≤ far l t + 3) x y p (omega arith)
          (λ _. omega (arith, small x z p q, far_none)) (λ f. omega (arith, v.high (suc x) y f (omega arith), least-within w h x z (suc x) y p q (omega arith) (omega arith) (omega arith) (omega arith))))

      high_right_down : 2 * least w h x z ≤ far l (near O (near O (span_at w x z) 2) 1) + 3
      high_right_down =
          to_right w h few (λ t. 2 * least w h x z ≤ far l (near O t 1) + 3) x z p q (λ _. corner-none 1)
          (λ e. to_down w h few (λ t. 2 * least w h x z ≤ far l t + 3) (suc x) z e q
          (λ _. omega (arith, small x z p q, far_none)) (λ f. omega (arith, v.high (suc x) (suc z) e f, least-within w h x z (suc x) (suc z) p q (omega arith) (omega arith) (omega arith) (omega arith))))

      high_down_left : 2 * least w h x z ≤ far l (near O (near O (span_at w x z) 1) 0) + 3
      high_down_left =
          to_down w h few (λ t. 2 * least w h x z ≤ far l (near O t 0) + 3) x z p q (λ _. corner-none 0)
          (λ e. to_left w h few (λ t. 2 * least w h x z ≤ far l t + 3) x (suc z) p e
          (λ _. omega (arith, small x z p q, far_none)) (λ y f. omega (arith, v.high y (suc z) (omega arith) e, least-within w h x z y (suc z) p q (omega arith) (omega arith) (omega arith) (omega arith))))

    module _ (s : ℕ) (g : s < w * h) where
      here : s < length l
      here = omega (arith, v.size)

      kept_pass1 : Kept (lower O 0 3 3 2 s l)
      unfolding least_of lower
      kept_pass1 =
          record {
            size = lower-length O 0 3 3 2 s l ∙ v.size;
            high = λ x z p q. get_d_set_at l s _ 65535 (span_at w x z) (λ r. 2 * least w h x z ≤ r) here
                (λ i. rw (← i) (omega (arith, v.high x z p q, high_left x z p q, high_left-up x z p q, high_up x z p q, high_up-right x z p q)))
                (λ _. v.high x z p q);
            edge = λ x z p q e. omega (arith, v.edge x z p q e, lower_lowers O 0 3 3 2 s l here (span_at w x z));
          }

      kept_pass2 : Kept (lower O 2 1 1 0 s l)
      unfolding least_of lower
      kept_pass2 =
          record {
            size = lower-length O 2 1 1 0 s l ∙ v.size;
            high = λ x z p q. get_d_set_at l s _ 65535 (span_at w x z) (λ r. 2 * least w h x z ≤ r) here
                (λ i. rw (← i) (omega (arith, v.high x z p q, high_right x z p q, high_right_down x z p q, high_down x z p q, high_down_left x z p q)))
                (λ _. v.high x z p q);
            edge = λ x z p q e. omega (arith, v.edge x z p q e, lower_lowers O 2 1 1 0 s l here (span_at w x z));
          }

  -- ---------------------------------------------------------------- the start: 0 on the edge, 65,535 within

  -- four neighbours of the span's own area exactly where it is not on the edge
  module _ (x z a b c d : ℕ) (i : Marks a (0 < x)) (j : Marks b (suc z < h)) (k : Marks c (suc x < w)) (m : Marks d (0 < z)) (u : a ≤ 1) (v : b ≤ 1) (t : c ≤ 1) (s : d ≤ 1) where
    on_edge : least w h x z ≡ 0 → a + b + c + d < 4
    on_edge e =
        elim (dec_lt (a + b + c + d) 4) [
          | yes g ↦ g
          | no g ↦
              let l = i.0 (omega arith) in
              let o = m.0 (omega arith) in
              let r = k.0 (omega arith) in
              let f = j.0 (omega arith) in
              absurd (omega (arith, least_above w h x z 1 l o (omega arith) (omega arith)))
        ]

    within : x < w → z < h → 0 < least w h x z → 4 ≤ a + b + c + d
    within p q e =
        let r = least_below w h x z p q in
        omega (arith, i.1 (omega arith), m.1 (omega arith), k.1 (omega arith), j.1 (omega arith))

  module _ (x z : ℕ) (p : x < w) (q : z < h) where
    start_on_edge : least w h x z ≡ 0 → start_at O (span_at w x z) ≡ 0
    unfolding start_at
    start_on_edge e =
        if-ind (λ r. r ≡ 0) _ (λ _. refl)
        (λ f. absurd (omega (
          arith,
          ltb-false,
          on_edge x z _ _ _ _ (same_left w h few x z p q) (same_down w h few x z p q) (same-right w h few x z p q) (same_up w h few x z p q)
              (same_le O (span_at w x z) 0) (same_le O (span_at w x z) 1) (same_le O (span_at w x z) 2) (same_le O (span_at w x z) 3) e,
        )))

    start-within : 2 * least w h x z ≤ start_at O (span_at w x z)
    unfolding start_at
    start-within =
        if-ind (λ r. 2 * least w h x z ≤ r) _
        (λ f. elim (dec_lt 0 (least w h x z)) [
          | no g ↦ omega arith
          | yes g ↦ absurd (omega (
            arith,
            ltb-true,
            within x z _ _ _ _ (same_left w h few x z p q) (same_down w h few x z p q) (same-right w h few x z p q) (same_up w h few x z p q)
                (same_le O (span_at w x z) 0) (same_le O (span_at w x z) 1) (same_le O (span_at w x z) 2) (same_le O (span_at w x z) 3) p q g,
          ))
        ])
        (λ _. small x z p q)

  kept_start : Kept (start O)
  kept_start =
      record {
        size = start-length O ∙ open_spans_lem w h;
        high = λ x z p q. rw (start-at O (span_at w x z) (rw (open_spans_lem w h) (in_field w h few x z p q))) (start-within x z p q);
        edge = λ x z p q e. start-at O (span_at w x z) (rw (open_spans_lem w h) (in_field w h few x z p q)) ∙ start_on_edge x z p q e;
      }

  -- ---------------------------------------------------------------- not more: pass 1

  -- the spans before k are at most twice their column and twice their row
  record Pass1 (k : ℕ) (l : List ℕ) : Type 0 where
    kept : Kept l
    column : (x z : ℕ) → x < w → z < h → span_at w x z < k → far l (span_at w x z) ≤ 2 * x
    row : (x z : ℕ) → x < w → z < h → span_at w x z < k → far l (span_at w x z) ≤ 2 * z

  -- a span on the edge has 0 after a step, as before
  edge_stays : (l : List ℕ) (v : Kept l) (a b c e s x z : ℕ) → s < w * h → x < w → z < h → least w h x z ≡ 0 → far (lower O a b c e s l) (span_at w x z) ≡ 0
  edge_stays l v a b c e s x z g p q i = omega (arith, v.edge x z p q i, lower_lowers O a b c e s l (omega (arith, v.size)) (span_at w x z))

  module _ (k : ℕ) (l : List ℕ) (g : k < w * h) (v : Pass1 k l) where
    inside : k < length l
    inside = omega (arith, v.kept.size)

    column_next : (x z : ℕ) → x < w → z < h → span_at w x z ≡ k → far (lower O 0 3 3 2 k l) (span_at w x z) ≤ 2 * x
    column_next x z p q e =
        to_left w h few (λ t. far (lower O 0 3 3 2 k l) (span_at w x z) ≤ far l t + 2 → far (lower O 0 3 3 2 k l) (span_at w x z) ≤ 2 * x) x z p q
        (λ i _. let r = least_below w h x z p q in omega (arith, edge_stays l v.kept 0 3 3 2 k x z g p q (omega arith)))
        (λ y i f. omega (arith, v.column y z (omega arith) q (omega arith)))
        (rw e (lower-near O 0 3 3 2 k l inside).0)

    row_next : (x z : ℕ) → x < w → z < h → span_at w x z ≡ k → far (lower O 0 3 3 2 k l) (span_at w x z) ≤ 2 * z
    row_next x z p q e =
        to_up w h few (λ t. far (lower O 0 3 3 2 k l) (span_at w x z) ≤ far l t + 2 → far (lower O 0 3 3 2 k l) (span_at w x z) ≤ 2 * z) x z p q
        (λ i _. let r = least_below w h x z p q in omega (arith, edge_stays l v.kept 0 3 3 2 k x z g p q (omega arith)))
        (λ y i f. let m : z * w ≡ y * w + w = rw (← i) (suc-mul y w) in omega (arith, v.row x y p (omega arith) (omega arith)))
        (rw e (lower-near O 0 3 3 2 k l inside).1)

    pass1_next : Pass1 (suc k) (lower O 0 3 3 2 k l)
    pass1_next =
        let down = lower_lowers O 0 3 3 2 k l inside in
        record {
          kept = kept_pass1 l v.kept k g;
          column = λ x z p q i. elim (dec_lt (span_at w x z) k) [ yes f ↦ omega (arith, v.column x z p q f, down (span_at w x z)) | no f ↦ column_next x z p q (omega arith) ];
          row = λ x z p q i. elim (dec_lt (span_at w x z) k) [ yes f ↦ omega (arith, v.row x z p q f, down (span_at w x z)) | no f ↦ row_next x z p q (omega arith) ];
        }

  after-pass1 : Pass1 (w * h) (pass1 O (start O))
  unfolding pass1
  after-pass1 =
      rw (← open_spans_lem w h)
      (upto-ind Pass1 (lower O 0 3 3 2) (start O) (spans O)
      (record { kept = kept_start; column = λ x z p q i. absurd (omega arith); row = λ x z p q i. absurd (omega arith) })
      (λ k l g v. pass1_next k l (rw (open_spans_lem w h) at g) v))

  -- ---------------------------------------------------------------- not more: pass 2

  -- the last k spans are at most twice the columns and twice the rows that follow theirs
  record Pass2 (k : ℕ) (l : List ℕ) : Type 0 where
    kept : Kept l
    column : (x z : ℕ) → x < w → z < h → far l (span_at w x z) ≤ 2 * x
    row : (x z : ℕ) → x < w → z < h → far l (span_at w x z) ≤ 2 * z
    columns : (x z : ℕ) → x < w → z < h → w * h ≤ span_at w x z + k → far l (span_at w x z) + 2 * x + 2 ≤ 2 * w
    rows : (x z : ℕ) → x < w → z < h → w * h ≤ span_at w x z + k → far l (span_at w x z) + 2 * z + 2 ≤ 2 * h

  module _ (k c : ℕ) (l : List ℕ) (g : c + suc k ≡ w * h) (v : Pass2 k l) where
    there : c < w * h
    there = omega arith

    in_list : c < length l
    in_list = omega (arith, v.kept.size)

    columns_next : (x z : ℕ) → x < w → z < h → span_at w x z ≡ c → far (lower O 2 1 1 0 c l) (span_at w x z) + 2 * x + 2 ≤ 2 * w
    columns_next x z p q e =
        to_right w h few (λ t. far (lower O 2 1 1 0 c l) (span_at w x z) ≤ far l t + 2 → far (lower O 2 1 1 0 c l) (span_at w x z) + 2 * x + 2 ≤ 2 * w) x z p q
        (λ i _. let r = least_below w h x z p q in omega (arith, edge_stays l v.kept 2 1 1 0 c x z there p q (omega arith)))
        (λ i f. omega (arith, v.columns (suc x) z i q (omega arith)))
        (rw e (lower-near O 2 1 1 0 c l in_list).0)

    rows_next : (x z : ℕ) → x < w → z < h → span_at w x z ≡ c → far (lower O 2 1 1 0 c l) (span_at w x z) + 2 * z + 2 ≤ 2 * h
    rows_next x z p q e =
        to_down w h few (λ t. far (lower O 2 1 1 0 c l) (span_at w x z) ≤ far l t + 2 → far (lower O 2 1 1 0 c l) (span_at w x z) + 2 * z + 2 ≤ 2 * h) x z p q
        (λ i _. let r = least_below w h x z p q in omega (arith, edge_stays l v.kept 2 1 1 0 c x z there p q (omega arith)))
        (λ i f. omega (arith, v.rows x (suc z) p i (omega (arith, suc-mul z w))))
        (rw e (lower-near O 2 1 1 0 c l in_list).1)

    pass2_next : Pass2 (suc k) (lower O 2 1 1 0 c l)
    pass2_next =
        let down = lower_lowers O 2 1 1 0 c l in_list in
        record {
          kept = kept_pass2 l v.kept c there;
          column = λ x z p q. omega (arith, v.column x z p q, down (span_at w x z));
          row = λ x z p q. omega (arith, v.row x z p q, down (span_at w x z));
          columns = λ x z p q i. elim (dec_lt c (span_at w x z)) [ yes f ↦ omega (arith, v.columns x z p q (omega arith), down (span_at w x z)) | no f ↦ columns_next x z p q (omega arith) ];
          rows = λ x z p q i. elim (dec_lt c (span_at w x z)) [ yes f ↦ omega (arith, v.rows x z p q (omega arith), down (span_at w x z)) | no f ↦ rows_next x z p q (omega arith) ];
        }

  pass2-first : (l : List ℕ) → Pass1 (w * h) l → Pass2 0 l
  pass2-first l v =
      record {
        kept = v.kept;
        column = λ x z p q. v.column x z p q (in_field w h few x z p q);
        row = λ x z p q. v.row x z p q (in_field w h few x z p q);
        columns = λ x z p q i. absurd (omega (arith, in_field w h few x z p q));
        rows = λ x z p q i. absurd (omega (arith, in_field w h few x z p q));
      }

  after-pass2 : Pass2 (w * h) (raw O)
  unfolding raw pass2 flat open_field
  after-pass2 =
      upto-ind Pass2 _ (pass1 O (start O)) (w * h) (pass2-first _ after-pass1)
      (λ k l g v. only_span w h few (Pass2 (suc k)) (w * h - 1 - k) l (lower O 2 1 1 0) (omega arith) (pass2_next k (w * h - 1 - k) l (omega arith) v))

-- ---------------------------------------------------------------- the theorem

pub open_raw_is_twice_the_least : (w h x z : ℕ) → w * h ≤ 65535 → x < w → z < h → get_or (raw (open_field w h)) (span_at w x z) 0 ≡ 2 * least w h x z
open_raw_is_twice_the_least w h x z few p q =
    let v = after-pass2 w h few in
    let s = span_at w x z in
    let d : get_or (raw (open_field w h)) s 0 ≡ far (raw (open_field w h)) s = get_d_any (raw (open_field w h)) s 0 65535 (omega (arith, raw-length (open_field w h), open_spans_lem w h, in_field w h few x z p q)) in
    d ∙ twice (far (raw (open_field w h)) s) (v.column x z p q) (v.row x z p q) (v.columns x z p q (omega arith)) (v.rows x z p q (omega arith)) (v.kept.high x z p q)
  where
    twice : (r : ℕ) → r ≤ 2 * x → r ≤ 2 * z → r + 2 * x + 2 ≤ 2 * w → r + 2 * z + 2 ≤ 2 * h → 2 * least w h x z ≤ r → r ≡ 2 * least w h x z
    twice r a b c d e = let m = least_above w h x z ((r + 1) / 2) (omega arith) (omega arith) (omega arith) (omega arith) in omega arith
