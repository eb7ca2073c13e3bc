-- The spans of a cell, and the cells of a rectangle, one after the other.
-- A span is in cell c just if it stands from the cell's index on, below its count; cell z·w + x is the one of column x and row z.
use Prim.Native.Nat.{ℕ, ◌+◌, ◌-◌, ◌*◌, ◌/◌, ◌%◌, ◌≤◌, ◌<◌}
use native.Mathlib.Omega.{arith}
use native.Mathlib.Nat.{div-add-mod', mul-le-mul, mul-le-mul_right}
use lib.Arith.{digits_div, digits_mod}
use native.Mathlib.Decide.{ℕ_discrete}
use mathlib.Core.Path.{◌≡◌, sym, ◌∙◌}
use mathlib.Core.Bool.{true, false}
use mathlib.Core.List.{List}
use lib.ListN.{length, get_or}
use borrow.Author.Tests.{eqb-true, eq-eqb, ltb-false, not-false}
use Rattle.rules.specs.Base.{◌or◌}
use Rattle.rules.specs.Field.{Field, spans, cell_of}
use Rattle.rules.specs.Refusals.{too_wide, wrong_length}
use Rattle.laws.proofs.Basics.{both, either, neither, and_both, or_left, or_right, same_test}
use Rattle.laws.proofs.Cells.{Passed, passed, before, cell_of_at, cell_of_in, before_lt, Cell, cell_of_lem, sum_of}
use Rattle.paint.specs.Paint.{Plot, put_if, walk_in, span_is, between, in_cell, in_rect}
use Rattle.paint.proofs.PutLaws.{between_true, between_make, walk_then, walk_same, walk_none, not_test}

-- ---------------------------------------------------------------- cells

-- what a field that is not refused says of its cells
pub record Cells (index count : List ℕ) (n : ℕ) : Type 0 where
  pub cell : (c : ℕ) → Cell index count 0 c
  pub sum : before count (length count) ≡ n
  pub size : length index ≡ length count
  pub few : length count ≤ 65536

sized : (F : Field) (lens : List ℕ) → wrong_length F lens ≡ false → (length F.index ≡ F.w * F.h) × (length F.count ≡ F.w * F.h)
unfolding wrong_length
sized F lens e =
    let a = both _ _ (both _ _ (both _ _ (not-false _ e)).0).0 in
    (eqb-true _ _ a.0, eqb-true _ _ a.1)

small : (F : Field) → too_wide F ≡ false → F.w * F.h ≤ 65536
unfolding too_wide
small F e = let a = neither _ _ e in mul-le-mul (ltb-false 256 F.w a.0) (ltb-false 256 F.h a.1)

of_field : (F : Field) (lens : List ℕ) → Passed F lens → Cells F.index F.count (spans F)
of_field F lens ok =
    let a = sized F lens ok.lengths in
    record { cell = cell_of_lem F lens ok; sum = sum_of F lens ok; size = a.0 ∙ sym a.1; few = omega (arith, small F ok.wide) }

pub cells : (index count : List ℕ) (n : ℕ) → Plot index count n → Cells index count n
cells index count n p = rw (← p.index_is, ← p.count_is, ← p.n_is) (of_field p.F p.lens (passed p.F p.lens p.ok))

pub index_in : (index count : List ℕ) (n c : ℕ) → Plot index count n → c < length count → c < length index
index_in index count n c p h = omega (arith, (cells index count n p).size)

-- ---------------------------------------------------------------- the spans of a cell

module _ (index count : List ℕ) (n c : ℕ) (p : Plot index count n) where
  -- within the field
  pub cell_inside : (f m i : ℕ) → f ≡ get_or index c 0 → m ≡ get_or count c 0 → c < length count → f ≤ i → i < f + m → i < n
  cell_inside f m i ef em h a b =
      let k = cells index count n p in
      let s = (k.cell c).starts (omega arith) in
      let l = before_lt count c (length count) (i - get_or index c 0) (omega arith) h in
      omega (arith, k.sum)

  pub cell-spans : (s : ℕ) → s < n → between (get_or index c 0) (get_or index c 0 + get_or count c 0) s ≡ in_cell count c s
  unfolding in_cell
  cell-spans s h =
      let k = cells index count n p in
      same_test _ _
      (λ e.
      let b = between_true _ _ s e in
      let t = (k.cell c).starts (omega arith) in
      let q : before count c + (s - before count c) ≡ s = omega arith in
      eq-eqb _ c (rw q at (cell_of_at count c (s - before count c) (omega arith))))
      (λ e.
      let r = rw (eqb-true _ c e) at (cell_of_in count s (omega (arith, k.sum))) in
      let t = (k.cell c).starts (omega arith) in
      between_make _ _ s (omega arith) (omega arith))

  pub cell_done : (f m : ℕ) → f ≡ get_or index c 0 → m ≡ get_or count c 0 → (area l₀ l : List ℕ) (v i : ℕ) → length l₀ ≡ n → i ≤ f + m → f + m ≤ i
      → l ≡ put_if (walk_in area (between f i)) v l₀ → l ≡ put_if (walk_in area (in_cell count c)) v l₀
  cell_done f m ef em area l₀ l v i h a b e =
      let q : i ≡ f + m = omega arith in
      e ∙ walk_same area (between f i) (in_cell count c) v l₀ (λ s g. rw (q, ef, em) (cell-spans s (omega arith)))

pub between_none : (a s : ℕ) → between a a s ≡ false
between_none a s = not_test _ (λ e. let b = between_true a a s e in omega arith)

-- one more of a row of numbers
pub between_more : (a i s : ℕ) → a ≤ i → between a (i + 1) s ≡ between a i s or span_is i s
unfolding span_is
between_more a i s h =
    same_test _ _
    (λ e.
    let b = between_true a (i + 1) s e in
    elim (ℕ_discrete s i) [ yes q ↦ or_right _ _ (eq-eqb s i q) | no q ↦ or_left _ _ (between_make a i s b.0 (omega arith)) ])
    (λ e. either _ _ _ e
    (λ f. let b = between_true a i s f in between_make a (i + 1) s b.0 (omega arith))
    (λ f. let q = eqb-true s i f in between_make a (i + 1) s (omega arith) (omega arith)))

module _ (area : List ℕ) (v : ℕ) (l₀ : List ℕ) where
  pub spans-none : (a : ℕ) → l₀ ≡ put_if (walk_in area (between a a)) v l₀
  spans-none a = walk_none area (between a a) v l₀ (λ s _. between_none a s)

  pub spans_more : (a i : ℕ) (l l' : List ℕ) → a ≤ i → l ≡ put_if (walk_in area (between a i)) v l₀ → l' ≡ put_if (walk_in area (span_is i)) v l
      → l' ≡ put_if (walk_in area (between a (i + 1))) v l₀
  spans_more a i l l' h e f = f ∙ rw e (walk_then area (between a i) (span_is i) (between a (i + 1)) v l₀ (λ s _. between_more a i s h))

-- ---------------------------------------------------------------- rows and rectangles

-- cell c of columns and rows
cell_is : (w c x z : ℕ) → x < w → c % w ≡ x → c / w ≡ z → c ≡ z * w + x
cell_is w c x z h e f = sym (div-add-mod' c w) ∙ rw (e, f)

module _ (w : ℕ) (count : List ℕ) where
  pub rect_true : (a e f g s : ℕ) → in_rect w count a e f g s ≡ true → (a ≤ cell_of count s % w) × (cell_of count s % w < e) × (f ≤ cell_of count s / w) × (cell_of count s / w < g)
  unfolding in_rect
  rect_true a e f g s h =
      let b = both _ _ h in
      let x = between_true _ _ _ b.0 in
      let z = between_true _ _ _ b.1 in
      (x.0, x.1, z.0, z.1)

  pub rect_make : (a e f g s : ℕ) → a ≤ cell_of count s % w → cell_of count s % w < e → f ≤ cell_of count s / w → cell_of count s / w < g → in_rect w count a e f g s ≡ true
  unfolding in_rect
  rect_make a e f g s h i j k = and_both _ _ (between_make _ _ _ h i) (between_make _ _ _ j k)

  no_column : (a f g s : ℕ) → in_rect w count a a f g s ≡ false
  no_column a f g s = not_test _ (λ e. let b = rect_true a a f g s e in omega arith)

  no_row : (a e f s : ℕ) → in_rect w count a e f f s ≡ false
  no_row a e f s = not_test _ (λ h. let b = rect_true a e f f s h in omega arith)

  more_columns : (a x z s : ℕ) → a ≤ x → x < w → in_rect w count a (x + 1) z (z + 1) s ≡ in_rect w count a x z (z + 1) s or in_cell count (z * w + x) s
  unfolding in_cell
  more_columns a x z s h l =
      same_test _ _
      (λ e.
      let b = rect_true a (x + 1) z (z + 1) s e in
      elim (ℕ_discrete (cell_of count s % w) x) [
        | yes q ↦ or_right _ _ (eq-eqb _ _ (cell_is w (cell_of count s) x z l q (omega arith)))
        | no q ↦ or_left _ _ (rect_make a x z (z + 1) s b.0 (omega arith) b.2 b.3)
      ])
      (λ e. either _ _ _ e
      (λ f. let b = rect_true a x z (z + 1) s f in rect_make a (x + 1) z (z + 1) s b.0 (omega arith) b.2 b.3)
      (λ f.
      let q : cell_of count s ≡ z * w + x = eqb-true _ _ f in
      let m : cell_of count s % w ≡ x = rw q (digits_mod z l) in
      let d : cell_of count s / w ≡ z = rw q (digits_div z l) in
      rect_make a (x + 1) z (z + 1) s (omega arith) (omega arith) (omega arith) (omega arith)))

  more_rows : (a e f z s : ℕ) → f ≤ z → in_rect w count a e f (z + 1) s ≡ in_rect w count a e f z s or in_rect w count a e z (z + 1) s
  more_rows a e f z s h =
      same_test _ _
      (λ k.
      let b = rect_true a e f (z + 1) s k in
      elim (ℕ_discrete (cell_of count s / w) z) [
        | yes q ↦ or_right _ _ (rect_make a e z (z + 1) s b.0 b.1 (omega arith) b.3)
        | no q ↦ or_left _ _ (rect_make a e f z s b.0 b.1 b.2 (omega arith))
      ])
      (λ k. either _ _ _ k
      (λ g. let b = rect_true a e f z s g in rect_make a e f (z + 1) s b.0 b.1 b.2 (omega arith))
      (λ g. let b = rect_true a e z (z + 1) s g in rect_make a e f (z + 1) s b.0 b.1 (omega arith) b.3))

  module _ (area : List ℕ) (v : ℕ) (l₀ : List ℕ) where
    pub columns_none : (a z : ℕ) → l₀ ≡ put_if (walk_in area (in_rect w count a a z (z + 1))) v l₀
    columns_none a z = walk_none area _ v l₀ (λ s _. no_column a z (z + 1) s)

    pub columns_more : (a x e z : ℕ) (l l' : List ℕ) → a ≤ x → x < e → e ≤ w → l ≡ put_if (walk_in area (in_rect w count a x z (z + 1))) v l₀
        → l' ≡ put_if (walk_in area (in_cell count (z * w + x))) v l → l' ≡ put_if (walk_in area (in_rect w count a (x + 1) z (z + 1))) v l₀
    columns_more a x m z l l' h g k e f = f ∙ rw e (walk_then area (in_rect w count a x z (z + 1)) (in_cell count (z * w + x)) (in_rect w count a (x + 1) z (z + 1)) v l₀ (λ s _. more_columns a x z s h (omega arith)))

    pub columns_done : (a x e z : ℕ) (l : List ℕ) → l ≡ put_if (walk_in area (in_rect w count a x z (z + 1))) v l₀ → x ≤ e → e ≤ x
        → l ≡ put_if (walk_in area (in_rect w count a e z (z + 1))) v l₀
    columns_done a x e z l q h g = let k : x ≡ e = omega arith in rw (← k) q

    pub rows_none : (a e f : ℕ) → l₀ ≡ put_if (walk_in area (in_rect w count a e f f)) v l₀
    rows_none a e f = walk_none area _ v l₀ (λ s _. no_row a e f s)

    pub rows_more : (a e f z : ℕ) (l l' : List ℕ) → f ≤ z → l ≡ put_if (walk_in area (in_rect w count a e f z)) v l₀
        → l' ≡ put_if (walk_in area (in_rect w count a e z (z + 1))) v l → l' ≡ put_if (walk_in area (in_rect w count a e f (z + 1))) v l₀
    rows_more a e f z l l' h p q = q ∙ rw p (walk_then area (in_rect w count a e f z) (in_rect w count a e z (z + 1)) (in_rect w count a e f (z + 1)) v l₀ (λ s _. more_rows a e f z s h))

    pub rows_done : (a e f z g : ℕ) (l : List ℕ) → l ≡ put_if (walk_in area (in_rect w count a e f z)) v l₀ → z ≤ g → g ≤ z
        → l ≡ put_if (walk_in area (in_rect w count a e f g)) v l₀
    rows_done a e f z g l q h k = let j : z ≡ g = omega arith in rw (← j) q

-- the next row is within the cells
pub row_in : (w z g m : ℕ) → z < g → g * w ≤ m → (z + 1) * w ≤ m
row_in w z g m h k = let l : z + 1 ≤ g = omega arith in omega (arith, mul-le-mul_right w l)
