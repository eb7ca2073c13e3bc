-- The spans of a row are a part of each list, between the first and the last cell of the row that is not empty; what is done to the part is done to the row.
-- Spans stand as their cells do. Assumes nothing.
use Prim.Native.Nat.{ℕ, zero, suc, ◌+◌, ◌*◌, ◌-◌, ◌/◌, ◌≤◌, ◌<◌}
use native.Mathlib.Omega.{arith}
use native.Mathlib.Nat.{mul-suc, mul-le-mul_left}
use native.Mathlib.Decide.{dec_lt, ℕ_discrete}
use mathlib.Core.Path.{◌≡◌, refl, sym, ap, ◌∙◌}
use mathlib.Core.Bool.{Bool}
use mathlib.Core.List.{List, [], ◌++◌, append_assoc}
use lib.ListN.{length, get_or, set, take, drop, length-drop}
use lib.Seq.{paste, paste-zero, paste-suc, drop-drop, get_or-take, get_or-drop, ext_get_or}
use lib.Pointwise.{pointwise, bytes_decides}
use lib.Dec.{eqb}
use borrow.Author.Tests.{eq-eqb, eqb-true}
use borrow.Rule.Slice.PartMut.{put_mid, mid_len}
use Rattle.laws.proofs.Basics.{same_test, every-at, every_all}
use mir.Val.{Fits}
use mir.Syntax.{w64}
use Rattle.rules.specs.Base.{upto, every}
use Rattle.rules.specs.Field.{Field, spans, cell_of}
use Rattle.rules.specs.Refresh.{value_to}
use Rattle.laws.proofs.Cells.{passed}
use Rattle.meaning.proofs.Places.{layer_in, in_order}
use Rattle.field.specs.Lent.{lent, Sound}
use Rattle.field.proofs.Loops.{product_small}
use Rattle.field.proofs.Passed.{sound_reached}
use Rattle.door.specs.Edit.{row_of}
use Rattle.door.proofs.Places.{row_is, row_cell, layer_cell, of_cell}
use Rattle.refresh.specs.Part.{FirstCell, LastCell, RowPart, part_to, same_part}

-- ---------------------------------------------------------------- the search for cells

-- no cell before number x is not empty
abbrev pub Empty_to : List ℕ → ℕ → ℕ → Type 0
Empty_to ks c x = (t : ℕ) → t < x → get_or ks (c + t) 0 ≡ 0

abbrev pub Empty_from : List ℕ → ℕ → ℕ → ℕ → Type 0
Empty_from ks c w x = (t : ℕ) → x ≤ t → t < w → get_or ks (c + t) 0 ≡ 0

module _ (ks : List ℕ) (c w x r : ℕ) (e : r ≡ get_or ks (c + x) 0) where
  pub first_go : Empty_to ks c x → r ≡ 0 → Empty_to ks c (x + 1)
  first_go v z t h = elim (ℕ_discrete t x) [ yes q ↦ rw q (sym e ∙ z) | no q ↦ v t (omega arith) ]

  pub first_found : Empty_to ks c x → (r ≡ 0 → ⊥) → x < w → FirstCell ks c w x
  first_found v z h = record { low = omega arith; empty = v; full = λ _. omega arith }

pub first-none : (ks : List ℕ) (c w x : ℕ) → Empty_to ks c x → x ≤ w → w ≤ x → FirstCell ks c w w
first-none ks c w x v h g = record { low = omega arith; empty = λ t i. v t (omega arith); full = λ i. absurd (omega arith) }

module _ (ks : List ℕ) (c w x r : ℕ) (h : 0 < x) (e : r ≡ get_or ks (c + (x - 1)) 0) where
  pub last_go : Empty_from ks c w x → r ≡ 0 → Empty_from ks c w (x - 1)
  last_go v z t i j = elim (ℕ_discrete t (x - 1)) [ yes q ↦ rw q (sym e ∙ z) | no q ↦ v t (omega arith) j ]

  pub last_found : Empty_from ks c w x → (r ≡ 0 → ⊥) → x ≤ w → LastCell ks c w (x - 1 + 1)
  last_found v z g =
      let q : x - 1 + 1 ≡ x = omega arith in
      rw q (record { low = g; empty = λ t i j. v t i j; full = λ _. omega arith })

pub last_none : (ks : List ℕ) (c w x : ℕ) → Empty_from ks c w x → x ≤ 0 → LastCell ks c w 0
last_none ks c w x v h = record { low = omega arith; empty = λ t i j. v t (omega arith) j; full = λ i. absurd (omega arith) }

-- ---------------------------------------------------------------- the part of a row

module _ (F : Field) (ok : Sound F) (y a z : ℕ) (first : FirstCell F.count (F.w * y) F.w a) (last : LastCell F.count (F.w * y) F.w z) where
  -- a span's cell is not empty
  not_empty : (s : ℕ) → s < spans F → 0 < get_or F.count (cell_of F.count s) 0
  not_empty s h = omega (arith, of_cell F [] (passed F [] ok) (cell_of F.count s) s h refl)

  -- where the row's spans stand
  between : (s : ℕ) → s < spans F → row_of F s ≡ y → (F.w * y + a ≤ cell_of F.count s) × (cell_of F.count s < F.w * y + z)
  between s h e =
      let v = row_cell F [] (passed F [] ok) y s h e in
      let x = cell_of F.count s - F.w * y in
      let q : F.w * y + x ≡ cell_of F.count s = omega arith in
      let n : 0 < get_or F.count (F.w * y + x) 0 = rw q (not_empty s h) in
      (elim (dec_lt x a) [ yes i ↦ absurd (omega (arith, first.empty x i)) | no i ↦ omega arith ], elim (dec_lt x z) [ yes i ↦ omega arith | no i ↦ absurd (omega (arith, last.empty x (omega arith) (omega arith))) ])

  pub part_none : z ≡ 0 → RowPart F y 0 0
  part_none e =
      record {
        order = omega arith;
        within = omega arith;
        inside = λ s i j. absurd (omega arith);
        whole = λ s h r. absurd (omega (arith, between s h r));
      }

  module _ (some : z ≡ 0 → ⊥) where
    -- the first cell that is not empty comes before the last, or is it
    pub first-last : a < z
    first-last = elim (dec_lt a z) [ yes i ↦ i | no i ↦ absurd (omega (arith, last.low, last.full (omega arith), first.empty (z - 1) (omega arith))) ]

    c₀ : ℕ
    c₀ = F.w * y + a

    c₁ : ℕ
    c₁ = F.w * y + (z - 1)

    full₀ : 0 < get_or F.count c₀ 0
    unfolding c₀
    full₀ = first.full (omega (arith, first-last, last.low))

    full₁ : 0 < get_or F.count c₁ 0
    unfolding c₁
    full₁ = last.full (omega arith)

    begins : ℕ
    begins = get_or F.index c₀ 0

    ends : ℕ
    ends = get_or F.index c₁ 0 + get_or F.count c₁ 0

    -- a span of cell c₀ or later
    after_begin : (s : ℕ) → s < spans F → c₀ ≤ cell_of F.count s → begins ≤ s
    unfolding begins
    after_begin s h g =
        let v = passed F [] ok in
        elim (ℕ_discrete (cell_of F.count s) c₀) [
          | yes e ↦ (of_cell F [] v c₀ s h e).0
          | no e ↦ omega (arith, in_order F [] v s (get_or F.index c₀ 0 + 0) h (layer_in F [] v c₀ 0 full₀) (omega (arith, layer_cell F [] v c₀ 0 full₀)))
        ]

    begin_after : (s : ℕ) → s < spans F → begins ≤ s → c₀ ≤ cell_of F.count s
    unfolding begins
    begin_after s h g =
        let v = passed F [] ok in
        elim (dec_lt (cell_of F.count s) c₀) [
          | no e ↦ omega arith
          | yes e ↦ absurd (omega (arith, in_order F [] v (get_or F.index c₀ 0 + 0) s (layer_in F [] v c₀ 0 full₀) h (omega (arith, layer_cell F [] v c₀ 0 full₀))))
        ]

    before_end : (s : ℕ) → s < spans F → cell_of F.count s ≤ c₁ → s < ends
    unfolding ends
    before_end s h g =
        let v = passed F [] ok in
        let k = get_or F.count c₁ 0 - 1 in
        elim (ℕ_discrete (cell_of F.count s) c₁) [
          | yes e ↦ (of_cell F [] v c₁ s h e).1
          | no e ↦ omega (arith, in_order F [] v (get_or F.index c₁ 0 + k) s (layer_in F [] v c₁ k (omega (arith, full₁))) h (omega (arith, layer_cell F [] v c₁ k (omega (arith, full₁)))), full₁)
        ]

    end_before : (s : ℕ) → s < spans F → s < ends → cell_of F.count s ≤ c₁
    unfolding ends
    end_before s h g =
        let v = passed F [] ok in
        let k = get_or F.count c₁ 0 - 1 in
        elim (dec_lt c₁ (cell_of F.count s)) [
          | no e ↦ omega arith
          | yes e ↦ absurd (omega (arith, in_order F [] v s (get_or F.index c₁ 0 + k) h (layer_in F [] v c₁ k (omega (arith, full₁))) (omega (arith, layer_cell F [] v c₁ k (omega (arith, full₁)))), full₁))
        ]

    ends_in : ends ≤ spans F
    unfolding ends
    ends_in =
        let k = get_or F.count c₁ 0 - 1 in
        omega (arith, full₁, layer_in F [] (passed F [] ok) c₁ k (omega (arith, full₁)))

    in_turn : begins ≤ ends
    unfolding c₀ c₁ ends
    in_turn =
        let v = passed F [] ok in
        let k = get_or F.count c₁ 0 - 1 in
        let e = layer_cell F [] v c₁ k (omega (arith, full₁)) in
        omega (arith, full₁, after_begin (get_or F.index c₁ 0 + k) (layer_in F [] v c₁ k (omega (arith, full₁))) (omega (arith, first-last)))

    pub part_some : RowPart F y (get_or F.index (F.w * y + a) 0) (get_or F.index (F.w * y + (z - 1)) 0 + get_or F.count (F.w * y + (z - 1)) 0)
    unfolding c₀ c₁ begins ends
    part_some =
        record {
          order = in_turn;
          within = ends_in;
          inside = λ s i j.
              let h : s < spans F = omega (arith, ends_in) in
              let p = begin_after s h i in
              let q = end_before s h j in
              let x = cell_of F.count s - F.w * y in
              let e : cell_of F.count s ≡ F.w * y + x = omega arith in
              ap (λ (c : ℕ). c / F.w) e ∙ row_is F.w y x (omega (arith, last.low));
          whole = λ s h r. let b = between s h r in (after_begin s h (omega arith), before_end s h (omega arith));
        }

-- ---------------------------------------------------------------- the same as the code has it

module _ (w h : ℕ) (is ks ar cs : List ℕ) (y : ℕ) (ok : Sound (lent w h is ks ar cs)) (g : y < h) where
  small : w * y + w ≤ 65536
  small =
      let v = (sound_reached (lent w h is ks ar cs) ok).celled in
      let e : w * suc y ≡ w * y + w = mul-suc w y in
      omega (arith, product_small w (suc y) v.narrow (omega (arith, v.short)))

  row_in_grid : w * y + w ≤ w * h
  row_in_grid =
      let e : w * suc y ≡ w * y + w = mul-suc w y in
      omega (arith, mul-le-mul_left w g)

  pub row_fits : Fits w64 (w * y)
  row_fits = omega (arith, small)

  pub row_counts : w * y + w ≤ length ks
  row_counts = omega (arith, row_in_grid, (sound_reached (lent w h is ks ar cs) ok).celled.counted)

  pub row_few : w * y + w ≤ 65536
  row_few = small

  module _ (a z : ℕ) (first : FirstCell ks (w * y) w a) (last : LastCell ks (w * y) w z) where
    pub row_none : z ≡ 0 → RowPart (lent w h is ks ar cs) y 0 0
    row_none e = part_none (lent w h is ks ar cs) ok y a z first last e

    module _ (some : z ≡ 0 → ⊥) where
      before_last : a < z
      before_last = first-last (lent w h is ks ar cs) ok y a z first last some

      pub last_fits : Fits w64 (w * y + z)
      last_fits = omega (arith, small, last.low)

      pub first_fits : Fits w64 (w * y + a)
      first_fits = omega (arith, small, first.low)

      pub first-place : w * y + a < length is
      first-place = omega (arith, before_last, last.low, row_in_grid, (sound_reached (lent w h is ks ar cs) ok).celled.indexed)

      pub last-place : w * y + z - 1 < length is
      last-place = omega (arith, before_last, last.low, row_in_grid, (sound_reached (lent w h is ks ar cs) ok).celled.indexed)

      pub last_count : w * y + z - 1 < length ks
      last_count = omega (arith, before_last, last.low, row_in_grid, (sound_reached (lent w h is ks ar cs) ok).celled.counted)

      pub row_some : (i j k : ℕ) → i ≡ get_or is (w * y + a) 0 → j ≡ get_or is (w * y + z - 1) 0 → k ≡ get_or ks (w * y + z - 1) 0 → RowPart (lent w h is ks ar cs) y i (j + k)
      row_some i j k p q r =
          let e : w * y + z - 1 ≡ w * y + (z - 1) = omega arith in
          rw (p, q, r, e) (part_some (lent w h is ks ar cs) ok y a z first last some)

-- ---------------------------------------------------------------- the part of a list as a whole

-- copied place by place, it is copied whole
module _ (p l : List ℕ) (a : ℕ) where
  by_places : (n : ℕ) → a + n ≤ length p → a + n ≤ length l → upto n (λ i. value_to p (a + i)) l ≡ paste l a (drop a p) n
  unfolding upto value_to
  by_places zero h g = paste-zero l a (drop a p)
  by_places (suc n) h g =
      let q : get_or p (a + n) 0 ≡ get_or (drop a p) n 0 = sym (get_or-drop a p n 0) in
      ap (λ (x : List ℕ). set x (a + n) (get_or p (a + n) 0)) (by_places n (omega arith) (omega arith)) ∙ rw q (paste-suc l a (drop a p) n 0 (omega arith) (omega (arith, length-drop a p)))

  pub copied_whole : (b : ℕ) (m : List ℕ) → a ≤ b → b ≤ length p → b ≤ length l → m ≡ take (b - a) (drop a p) → put_mid a (b - a) l m ≡ part_to p a b l
  unfolding part_to
  copied_whole b m h g k e =
      ap (put_mid a (b - a) l) e ∙ sym (append_assoc (take a l) (take (b - a) (drop a p)) (drop (b - a) (drop a l)))
      ∙ ap (λ (x : List ℕ). take a l ++ take (b - a) (drop a p) ++ x) (drop-drop (b - a) a l) ∙ sym (by_places (b - a) (omega arith) (omega arith))

-- the same as whole lists where it is the same place by place
module _ (l m : List ℕ) (a b : ℕ) (i : b ≤ length l) (j : b ≤ length m) where
  place : (p : List ℕ) (t : ℕ) → t < b - a → get_or (take (b - a) (drop a p)) t 0 ≡ get_or p (a + t) 0
  place p t h = get_or-take (b - a) (drop a p) t 0 h ∙ get_or-drop a p t 0

  pub same_whole : (r : Bool) → r ≡ pointwise eqb (take (b - a) (drop a m)) (take (b - a) (drop a l)) → r ≡ same_part l m a b
  unfolding same_part
  same_whole r e =
      let here = λ (t : ℕ). eqb (get_or m (a + t) 0) (get_or l (a + t) 0) in
      let d = bytes_decides (take (b - a) (drop a m)) (take (b - a) (drop a l)) in
      let u = mid_len a b m j in
      same_test r (every (b - a) here)
      (λ z. every_all (b - a) here (λ t h. eq-eqb _ _ (sym (place m t h) ∙ ap (λ (x : List ℕ). get_or x t 0) (d.0 (sym e ∙ z)) ∙ place l t h)))
      (λ z. e ∙ d.1 (ext_get_or 0 _ _ (u ∙ sym (mid_len a b l i)) (λ t h. let g : t < b - a = omega (arith, u) in place m t g ∙ eqb-true _ _ (every-at (b - a) here z t g) ∙ sym (place l t g))))
