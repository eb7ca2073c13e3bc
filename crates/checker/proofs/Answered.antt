-- A connection that leads into the grid is answered by the layer that it comes from: the way back leads to the same cell, where a layer is one span.
-- The rows of the grid in order are its cells in order, and a column and a row tell on which sides of a cell there is another.
use Prim.Native.Nat.{ℕ, zero, suc, ◌+◌, ◌*◌, ◌-◌, ◌/◌, ◌%◌, ◌≤◌, ◌<◌, min}
use native.Mathlib.Omega.{arith}
use native.Mathlib.Nat.{mul_comm, mul-suc, mul-le-mul_left}
use native.Mathlib.Numerals.{add-one}
use native.Mathlib.Decide.{dec_lt, ℕ_discrete}
use lib.Arith.{digits_lt, digits_div, digits_mod}
use mathlib.Core.Path.{◌≡◌, refl, sym, ap, ◌∙◌}
use mathlib.Core.Bool.{Bool, true, false, not, false≢true}
use mathlib.Core.List.{List}
use lib.ListN.{length, get_or}
use lib.Dec.{eqb, leb, ltb}
use borrow.Author.Tests.{eq-eqb, ne_eqb, lt-ltb, le-ltb, lt-leb, le-leb}
use mir.Val.{Fits}
use mir.Syntax.{w64}
use Rattle.rules.specs.Base.{◌and◌, ◌or◌, every}
use Rattle.rules.specs.Field.{Field, spans, cell_of, cell_to, leaves, con_of, near}
use Rattle.rules.specs.Refusals.{good_con, good_back}
use Rattle.rules.specs.Mend.{stays}
use Rattle.laws.proofs.Basics.{both, in_list, get_d_any, every-at, every_all, same_test}
use Rattle.laws.proofs.Cells.{near_none, near_is}
use Rattle.laws.proofs.Passes.{across_in}
use Rattle.field.specs.Lent.{Stands, Celled, cons_at, lent}
use Rattle.checker.specs.Links.{Inner, Column, inner_at, half_at, in_cell, in_columns, in_row}
use Rattle.field.specs.Blocks.{empty_block}
use Rattle.field.proofs.Blocks.{block_none}
use Rattle.field.proofs.Loops.{every_rows, every_ext, every_join, every_go, every_halt, every-end}
use Rattle.field.proofs.Places.{room_left, room_up, layer_stands, cell_is, con_at, turned}
use Rattle.checker.proofs.Checks.{flip, every_cells}

-- ---------------------------------------------------------------- there and back

pub side_in : (w h c d : ℕ) (r : Bool) → r ≡ not (leaves w h c d) → r ≡ true → leaves w h c d ≡ false
side_in w h c d r e z = flip r (leaves w h c d) true e z

-- the way back leads to the cell that it comes from
pub there_back : (w h c d : ℕ) → leaves w h c d ≡ false → d < 4 → cell_to w (cell_to w c d) ((d + 2) % 4) ≡ c
unfolding cell_to
there_back w h c zero i l = omega (arith, room_left w c 0 h i refl)
there_back w h c (suc zero) i l = omega arith
there_back w h c (suc (suc zero)) i l = omega arith
there_back w h c (suc (suc (suc zero))) i l = omega (arith, room_up w c 3 h i refl)
there_back w h c (suc (suc (suc (suc d)))) i l = absurd (omega arith)

-- an answer m leads to the span i + m, or to none: to s = i + j only where it is j
answer_is : (i j m n s : ℕ) → i + j ≡ s → s < 65535 → j ≤ 63 → (m ≡ 255 → n ≡ 65535) → ((m ≡ 255 → ⊥) → n ≡ i + m) → eqb m j ≡ eqb n s
answer_is i j m n s e b f p q =
    elim (ℕ_discrete m j) [
      | yes h ↦ let k : n ≡ i + m = q (λ z. omega arith) in eq-eqb m j h ∙ sym (eq-eqb n s (omega arith))
      | no h ↦ ne_eqb m j h ∙ sym (ne_eqb n s (λ z. elim (ℕ_discrete m 255) [ yes k ↦ omega (arith, p k) | no k ↦ h (omega (arith, q k)) ]))
    ]

-- the span in layer j of cell c, with its connection k in direction d
module _ (w h : ℕ) (is ks ar cs : List ℕ) (ok : Celled (lent w h is ks ar cs)) (c j k d : ℕ) (g : j < get_or ks c 0)
    (e : k ≡ con_of (lent w h is ks ar cs) (get_or is c 0 + j) d) where
  here : Stands (lent w h is ks ar cs) c (get_or is c 0 + j)
  here = layer_stands (lent w h is ks ar cs) ok c j g

  pub link_none : k ≡ 255 → true ≡ stays (lent w h is ks ar cs) (get_or is c 0 + j) d
  unfolding stays good_con good_back ◌or◌ ◌and◌
  link_none z = rw (← e, z)

  link_cell : c < w * h
  link_cell = omega (arith, in_list ks c (omega arith), ok.counted)

  pub link_small : c < 65536
  link_small = omega (arith, link_cell, ok.grid)

  -- a way out of the grid is none
  pub link_out : (r : Bool) → r ≡ not (leaves w h c d) → r ≡ false → eqb k 255 ≡ stays (lent w h is ks ar cs) (get_or is c 0 + j) d
  unfolding stays good_con ◌or◌ ◌and◌
  link_out r i z =
      elim (ℕ_discrete k 255) [ yes q ↦ eq-eqb k 255 q ∙ link_none q | no q ↦ rw (← e, ne_eqb k 255 q, here.cell, ← i, z) ]

  module _ (n : k ≡ 255 → ⊥) (i : leaves w h c d ≡ false) (l : d < 4) (a : ℕ) (p : a ≡ cell_to w c d) where
    -- the cell across is there
    link_in : a < w * h
    link_in = rw p (across_in w h c d link_cell l i)

    pub link_counted : a < length ks
    link_counted = omega (arith, link_in, ok.counted)

    pub link_indexed : a < length is
    link_indexed = omega (arith, link_in, ok.indexed)

    -- and lacks the layer
    pub link_over : get_or ks a 0 ≤ k → false ≡ stays (lent w h is ks ar cs) (get_or is c 0 + j) d
    unfolding stays good_con ◌or◌ ◌and◌
    link_over m = rw (← e, ne_eqb k 255 n, here.cell, i, ← p, le-ltb k (get_or ks a 0) m)

    -- or has it, as span t
    module _ (m : k < get_or ks a 0) (t : ℕ) (q : t ≡ get_or is a 0 + k) where
      there : Stands (lent w h is ks ar cs) a t
      there = rw q (layer_stands (lent w h is ks ar cs) ok a k m)

      pub link_room : (u : ℕ) → 4 * t + (d + u) % 4 < length cs
      link_room u = omega (arith, there.span, ok.linked, turned d u)

      pub link_four : Fits w64 (4 * t)
      link_four = omega (arith, there.span, ok.few)

      pub link_fits : (u : ℕ) → Fits w64 (4 * t + (d + u) % 4)
      link_fits u = omega (arith, there.span, ok.few, turned d u)

      leads_to : near (lent w h is ks ar cs) (get_or is c 0 + j) d ≡ t
      leads_to = near_is (lent w h is ks ar cs) (get_or is c 0 + j) d (λ x. n (e ∙ x)) ∙ rw (here.cell, ← p, ← e, q)

      answer : (v : ℕ) → v ≡ con_of (lent w h is ks ar cs) t ((d + 2) % 4) → eqb v j ≡ eqb (near (lent w h is ks ar cs) t ((d + 2) % 4)) (get_or is c 0 + j)
      answer v f =
          let b : cell_to w (cell_of ks t) ((d + 2) % 4) ≡ c = rw (there.cell, p) (there_back w h c d i l) in
          answer_is (get_or is c 0) j v (near (lent w h is ks ar cs) t ((d + 2) % 4)) (get_or is c 0 + j) refl
          (omega (arith, here.span, ok.few))
          (omega (arith, (cell_is (lent w h is ks ar cs) ok c).few))
          (λ x. near_none (lent w h is ks ar cs) t ((d + 2) % 4) (sym f ∙ x))
          (λ x. near_is (lent w h is ks ar cs) t ((d + 2) % 4) (λ y. x (f ∙ y)) ∙ rw (b, f))

      read_con : get_or cs (4 * t + (d + 2) % 4) 0 ≡ con_of (lent w h is ks ar cs) t ((d + 2) % 4)
      unfolding con_of
      read_con = get_d_any cs (4 * t + (d + 2) % 4) 0 255 (link_room 2)

      pub link_back : eqb (get_or cs (4 * t + (d + 2) % 4) 0) j ≡ stays (lent w h is ks ar cs) (get_or is c 0 + j) d
      unfolding stays good_con good_back ◌or◌ ◌and◌
      link_back =
          rw (← e, ne_eqb k 255 n, here.cell, i, ← p, lt-ltb k (get_or ks a 0) m, leads_to)
          (answer (get_or cs (4 * t + (d + 2) % 4) 0) read_con)

-- ---------------------------------------------------------------- the connections of a span

module _ (w h : ℕ) (is ks ar cs : List ℕ) (ok : Celled (lent w h is ks ar cs)) (c j : ℕ) (g : j < get_or ks c 0) where
  pub span_room : (s : ℕ) → s ≡ get_or is c 0 + j → 4 * s + 3 < length cs
  span_room s e = omega (arith, (layer_stands (lent w h is ks ar cs) ok c j g).span, ok.linked)

  pub span_con : (cons : List ℕ) (d : ℕ) → cons ≡ cons_at cs (get_or is c 0 + j) → d < 4 → get_or cons d 0 ≡ con_of (lent w h is ks ar cs) (get_or is c 0 + j) d
  span_con cons d e l = rw e (sym (con_at (lent w h is ks ar cs) ok (get_or is c 0 + j) d (layer_stands (lent w h is ks ar cs) ok c j g).span l))

-- span s is the one in layer j of cell c
module _ (s t : ℕ) (e : s ≡ t) where
  pub span_cons : (cons cs : List ℕ) → cons ≡ cons_at cs s → cons ≡ cons_at cs t
  span_cons cons cs f = rw (← e) f

  pub span_link : (F : Field) (r : Bool) → r ≡ half_at F t → r ≡ half_at F s
  span_link F r f = rw e f

pub span_halt : (F : Field) (s : ℕ) (r : Bool) → r ≡ stays F s 0 → r ≡ false → false ≡ half_at F s
unfolding half_at ◌and◌
span_halt F s r e z = rw (← e, z)

pub span-end : (F : Field) (s : ℕ) (r₀ r₁ : Bool) → r₀ ≡ stays F s 0 → r₀ ≡ true → r₁ ≡ stays F s 1 → r₁ ≡ half_at F s
unfolding half_at ◌and◌
span-end F s r₀ r₁ e₀ z₀ e₁ = rw (← e₀, z₀, ← e₁)

-- ---------------------------------------------------------------- a cell by its column and row

pub zero_ltb : (x : ℕ) → x ≡ 0 → ltb 0 x ≡ false
zero_ltb x e = le-ltb 0 x (omega arith)

pub some_ltb : (x : ℕ) → (x ≡ 0 → ⊥) → ltb 0 x ≡ true
some_ltb x n = lt-ltb 0 x (omega arith)

pos_is : (x : ℕ) → ltb 0 x ≡ not (eqb x 0)
pos_is x = elim (ℕ_discrete x 0) [ yes e ↦ rw (zero_ltb x e, eq-eqb x 0 e) | no e ↦ rw (some_ltb x e, ne_eqb x 0 e) ]

less_is : (a b : ℕ) → ltb a b ≡ not (leb b a)
less_is a b = elim (dec_lt a b) [ yes e ↦ rw (lt-ltb a b e, lt-leb b a e) | no e ↦ let g : b ≤ a = omega arith in rw (le-ltb a b g, le-leb b a g) ]

module _ (w h c x z : ℕ) (v : Column w h c x z) where
  column_is : c % w ≡ x
  column_is = rw (v.place, mul_comm w z) (digits_mod z v.column)

  row_is : c / w ≡ z
  row_is = rw (v.place, mul_comm w z) (digits_div z v.column)

  pub side_left : ltb 0 x ≡ not (leaves w h c 0)
  unfolding leaves
  side_left = rw column_is (pos_is x)

  pub side_down : ltb (z + 1) h ≡ not (leaves w h c 1)
  unfolding leaves
  side_down = rw row_is (less_is (z + 1) h)

  pub inner_is : (r : Bool) → r ≡ inner_at w h x z → r ≡ true → Inner w h c
  unfolding inner_at
  inner_is r e t =
      let p = both _ _ (sym e ∙ t) in
      record { side_0 = flip _ _ true side_left p.0; side_1 = flip _ _ true side_down p.1 }

module _ (w h x z : ℕ) (a : x < w) (b : z < h) where
  pub column_in : w * z + x < w * h
  column_in =
      let y : z * w + x < h * w = digits_lt b a in
      omega (arith, mul_comm z w, mul_comm h w)

  module _ (is ks ar cs : List ℕ) (ok : Celled (lent w h is ks ar cs)) where
    pub row_fits : Fits w64 (w * z)
    row_fits = omega (arith, column_in, ok.grid)

    pub column_fits : Fits w64 (w * z + x)
    column_fits = omega (arith, column_in, ok.grid)

-- k columns from x on, in row z
module _ (w h x k z : ℕ) (a : x + k ≤ w) (b : z < h) (is ks ar cs : List ℕ) (ok : Celled (lent w h is ks ar cs)) where
  rows_in : w * z + (x + k) ≤ w * h
  rows_in =
      let y : w * (z + 1) ≤ w * h = mul-le-mul_left w (omega arith) in
      let e : w * (z + 1) ≡ w * z + w = rw add-one (mul-suc w z) in
      omega arith

  pub block_row_fits : Fits w64 (w * z)
  block_row_fits = omega (arith, rows_in, ok.grid)

  pub block_fits : Fits w64 (w * z + x)
  block_fits = omega (arith, rows_in, ok.grid)

  pub block_in : w * z + x + k ≤ length ks
  block_in = omega (arith, rows_in, ok.counted)

-- ---------------------------------------------------------------- rows

module _ (F : Field) (p : ℕ → Bool) (z x : ℕ) where
  -- the loop over k columns of row z from x on
  module _ (j : ℕ) (r : Bool) (e : r ≡ in_cell F p (F.w * z + (x + j))) where
    pub columns_go : in_columns F p z x j ≡ true → r ≡ true → in_columns F p z x (j + 1) ≡ true
    unfolding in_columns
    columns_go a t = every_go (λ i. in_cell F p (F.w * z + (x + i))) j r a e t

    pub columns_halt : (k : ℕ) → j < k → r ≡ false → false ≡ in_columns F p z x k
    unfolding in_columns
    columns_halt k h t = every_halt (λ i. in_cell F p (F.w * z + (x + i))) k j r h e t

  pub columns_end : (k j : ℕ) → in_columns F p z x j ≡ true → j ≤ k → k ≤ j → true ≡ in_columns F p z x k
  unfolding in_columns
  columns_end k j a h g = every-end (λ i. in_cell F p (F.w * z + (x + i))) k j a h g

  -- a block without spans
  pub columns_none : (k : ℕ) (r : Bool) → r ≡ empty_block F.count (F.w * z + x) k → r ≡ true → true ≡ in_columns F p z x k
  unfolding in_columns in_cell every
  columns_none k r e t =
      sym (every_all k (λ i. in_cell F p (F.w * z + (x + i)))
      (λ i h.
      let q : F.w * z + x + i ≡ F.w * z + (x + i) = omega arith in
      let n : get_or F.count (F.w * z + (x + i)) 0 ≡ 0 = rw q at (block_none F.count (F.w * z + x) k r e t i h) in
      rw n))

  -- the loop over the blocks of row z
  module _ (k : ℕ) (r : Bool) (e : r ≡ in_columns F p z x k) where
    pub blocks_go : in_columns F p z 0 x ≡ true → r ≡ true → in_columns F p z 0 (x + k) ≡ true
    unfolding in_columns ◌and◌
    blocks_go a t = rw (every_join x k (λ i. in_cell F p (F.w * z + (0 + i))), a) (every_ext k _ _ (λ i h. let q : 0 + (x + i) ≡ x + i = omega arith in rw q) ∙ sym e ∙ t)

    pub blocks_halt : x < F.w → k ≡ min (F.w - x) 16 → r ≡ false → false ≡ in_row F p z
    unfolding in_columns in_row
    blocks_halt h b t =
        same_test false (in_row F p z) (λ o. absurd (false≢true o))
        (λ o. sym t ∙ e ∙ every_all k (λ i. in_cell F p (F.w * z + (x + i))) (λ i g. every-at F.w (λ y. in_cell F p (F.w * z + y)) o (x + i) (omega arith)))

  pub blocks_end : in_columns F p z 0 x ≡ true → x ≤ F.w → F.w ≤ x → true ≡ in_row F p z
  unfolding in_columns in_row
  blocks_end a h g =
      let q : x ≡ F.w = omega arith in
      sym (every_ext F.w (λ y. in_cell F p (F.w * z + y)) (λ y. in_cell F p (F.w * z + (0 + y))) (λ y l. let o : y ≡ 0 + y = omega arith in ap (λ (i : ℕ). in_cell F p (F.w * z + i)) o)
      ∙ ap (λ (n : ℕ). every n (λ y. in_cell F p (F.w * z + (0 + y)))) (sym q) ∙ a)

-- every row is every span
module _ (F : Field) (ok : Celled F) where
  pub all_rows : every F.h (in_row F (half_at F)) ≡ every (spans F) (half_at F)
  unfolding in_row
  all_rows = sym (every_rows F.w F.h (in_cell F (half_at F))) ∙ rw (← ok.counted) (every_cells F ok (half_at F))
