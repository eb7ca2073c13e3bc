-- Rows of spans and of their neighbours, in a field that is not refused: a neighbour to the left or right is in the span's row, one above or below in
-- the row beside. The cells of a row follow each other, and no connection leads over the grid's side.
use Prim.Native.Nat.{ℕ, suc, ◌+◌, ◌*◌, ◌-◌, ◌/◌, ◌%◌, ◌≤◌, ◌<◌}
use native.Mathlib.Omega.{arith}
use native.Mathlib.Nat.{mul_comm, suc-mul, mod-lt, div-add-mod', div-lt_iff_lt-mul}
use mathlib.Core.Path.{◌≡◌, sym, ap, ◌∙◌}
use mathlib.Core.List.{List}
use lib.ListN.{length, get_or}
use lib.Arith.{digits_div}
use borrow.Author.Tests.{eqb-false, leb-false}
use Rattle.rules.specs.Field.{Field, spans, near, cell_of, leaves}
use Rattle.laws.proofs.Cells.{Passed, near_none, before, cell_of_lem, cell_of_at, leads}
use Rattle.meaning.proofs.Places.{few, cell, within-cell, cell_in, some_column, cell-left, cell-right, cell-up, cell_down}
use Rattle.door.specs.Edit.{row_of}

-- ---------------------------------------------------------------- cells of a grid

-- cell x of row y
pub row_is : (w y x : ℕ) → x < w → (w * y + x) / w ≡ y
row_is w y x h = rw (mul_comm w y) (digits_div y h)

left_row : (w c : ℕ) → 0 < w → 0 < c % w → (c - 1) / w ≡ c / w
left_row w c p h =
    let l = mod-lt c p in
    let e : c - 1 ≡ c / w * w + (c % w - 1) = omega (arith, div-add-mod' c w) in
    rw e (digits_div (c / w) (omega arith))

right_row : (w c : ℕ) → c % w + 1 < w → (c + 1) / w ≡ c / w
right_row w c h =
    let e : c + 1 ≡ c / w * w + (c % w + 1) = omega (arith, div-add-mod' c w) in
    rw e (digits_div (c / w) h)

down_row : (w c : ℕ) → 0 < w → (c + w) / w ≡ suc (c / w)
down_row w c p =
    let e : c + w ≡ suc (c / w) * w + c % w = omega (arith, div-add-mod' c w, suc-mul (c / w) w) in
    rw e (digits_div (suc (c / w)) (mod-lt c p))

module _ (F : Field) (lens : List ℕ) (ok : Passed F lens) where
  -- ---------------------------------------------------------------- spans

  pub row_in : (s : ℕ) → s < spans F → row_of F s < F.h
  row_in s h = (div-lt_iff_lt-mul (some_column F lens ok s h)).1 (rw (mul_comm F.h F.w) (cell_in F lens ok s h))

  -- the cells of row y
  pub row_cell : (y s : ℕ) → s < spans F → row_of F s ≡ y → (F.w * y ≤ cell_of F.count s) × (cell_of F.count s < F.w * y + F.w)
  row_cell y s h e =
      let r : row_of F s * F.w ≡ y * F.w = ap (λ (z : ℕ). z * F.w) e in
      let d = div-add-mod' (cell_of F.count s) F.w in
      let m = mod-lt (cell_of F.count s) (some_column F lens ok s h) in
      (omega (arith, mul_comm y F.w), omega (arith, mul_comm y F.w))

  -- a layer of cell c stands in it
  pub layer_cell : (c j : ℕ) → j < get_or F.count c 0 → cell_of F.count (get_or F.index c 0 + j) ≡ c
  layer_cell c j h =
      let b : get_or F.index c 0 + j ≡ before F.count c + j = omega (arith, (cell_of_lem F lens ok c).starts (omega arith)) in
      rw b (cell_of_at F.count c j h)

  -- and a span is a layer of its cell
  pub of_cell : (c s : ℕ) → s < spans F → cell_of F.count s ≡ c → (get_or F.index c 0 ≤ s) × (s < get_or F.index c 0 + get_or F.count c 0)
  of_cell c s h e = rw (← e) (here (within-cell F lens ok s h))
    where
      here : (before F.count (cell_of F.count s) ≤ s) × (s < before F.count (cell_of F.count s) + get_or F.count (cell_of F.count s) 0) × (cell_of F.count s < length F.count)
          → (get_or F.index (cell_of F.count s) 0 ≤ s) × (s < get_or F.index (cell_of F.count s) 0 + get_or F.count (cell_of F.count s) 0)
      here v =
          let q = (cell_of_lem F lens ok (cell_of F.count s)).starts (omega arith) in
          (omega arith, omega arith)

  -- ---------------------------------------------------------------- neighbours

  module _ (s : ℕ) (h : s < spans F) where
    pub row_left : near F s 0 < spans F → row_of F (near F s 0) ≡ row_of F s
    unfolding leaves
    row_left i =
        let r = leads F lens ok s 0 h (omega arith) (λ z. let n = near_none F s 0 z in omega (arith, few F lens ok)) in
        let n : cell F lens ok s % F.w ≡ 0 → ⊥ = eqb-false (cell F lens ok s % F.w) 0 r.inner in
        let e : cell F lens ok (near F s 0) ≡ cell F lens ok s - 1 = omega (arith, (cell-left F lens ok s h i).0) in
        ap (λ (c : ℕ). c / F.w) e ∙ left_row F.w (cell F lens ok s) (some_column F lens ok s h) (omega arith)

    pub row_right : near F s 2 < spans F → row_of F (near F s 2) ≡ row_of F s
    unfolding leaves
    row_right i =
        let r = leads F lens ok s 2 h (omega arith) (λ z. let n = near_none F s 2 z in omega (arith, few F lens ok)) in
        let n : cell F lens ok s % F.w + 1 < F.w = leb-false F.w (cell F lens ok s % F.w + 1) r.inner in
        let e : cell F lens ok (near F s 2) ≡ cell F lens ok s + 1 = omega (arith, (cell-right F lens ok s h i).0) in
        ap (λ (c : ℕ). c / F.w) e ∙ right_row F.w (cell F lens ok s) n

    pub row_below : near F s 1 < spans F → row_of F (near F s 1) ≡ suc (row_of F s)
    row_below i = ap (λ (c : ℕ). c / F.w) (cell_down F lens ok s h i) ∙ down_row F.w (cell F lens ok s) (some_column F lens ok s h)

    pub row_above : near F s 3 < spans F → suc (row_of F (near F s 3)) ≡ row_of F s
    row_above i = sym (down_row F.w (cell F lens ok (near F s 3)) (some_column F lens ok s h)) ∙ ap (λ (c : ℕ). c / F.w) (cell-up F lens ok s h i)
