-- Cells, spans and connections of a field that refusals 1 to 4, or 1 to 5, leave: a span stands in one cell, and a connection leads into the grid.
-- Then the same as the code has it: what is lent is enough to say where a connection leads in every field that fits it.
use Prim.Native.Nat.{ℕ, zero, suc, ◌+◌, ◌*◌, ◌-◌, ◌/◌, ◌%◌, ◌≤◌, ◌<◌}
use native.Mathlib.Omega.{arith}
use native.Mathlib.Nat.{mod-lt, mod-le, div-eq_of_lt}
use native.Mathlib.Decide.{ℕ_discrete, dec_lt}
use mathlib.Core.Path.{◌≡◌, refl, sym, ap, ◌∙◌}
use mathlib.Core.Bool.{true, false, false≢true}
use mathlib.Core.List.{List, [], ◌∷◌}
use lib.ListN.{length, get_or}
use lib.Dec.{eqb, leb}
use borrow.Author.Tests.{eqb-true, eqb-false, ltb-true, not-true}
use Rattle.rules.specs.Field.{Field, spans, none, near, cell_of, cell_to, leaves, con_of}
use Rattle.rules.specs.Refusals.{good_cells, good_con}
use Rattle.laws.proofs.Basics.{both, either, tests, in_list, get_d_any}
use Rattle.laws.proofs.Cells.{before, before_lt, cell_of_at, cell_of_in, Cell, cells_at, cells_sum, Leads, near_none, near_is}
use Rattle.field.specs.Lent.{Stands, Celled, Reached, Spot, Leaf, SomeSpot, SomeLeaf, cons_at, lent}

-- ---------------------------------------------------------------- the cell across, by direction

module _ (w c d : ℕ) where
  pub across_0 : d ≡ 0 → c - 1 ≡ cell_to w c d
  unfolding cell_to
  across_0 e = rw e

  pub across_1 : d ≡ 1 → c + w ≡ cell_to w c d
  unfolding cell_to
  across_1 e = rw e

  pub across_2 : d ≡ 2 → c + 1 ≡ cell_to w c d
  unfolding cell_to
  across_2 e = rw e

  pub across_3 : d < 4 → (d ≡ 0 → ⊥) → (d ≡ 1 → ⊥) → (d ≡ 2 → ⊥) → c - w ≡ cell_to w c d
  unfolding cell_to
  across_3 h a b e = let q : d ≡ 3 = omega arith in rw q

  module _ (h : ℕ) where
    pub leaves_0 : d ≡ 0 → eqb (c % w) 0 ≡ leaves w h c d
    unfolding leaves
    leaves_0 e = rw e

    pub leaves_1 : d ≡ 1 → leb h (c / w + 1) ≡ leaves w h c d
    unfolding leaves
    leaves_1 e = rw e

    pub leaves_2 : d ≡ 2 → leb w (c % w + 1) ≡ leaves w h c d
    unfolding leaves
    leaves_2 e = rw e

    pub leaves_3 : d < 4 → (d ≡ 0 → ⊥) → (d ≡ 1 → ⊥) → (d ≡ 2 → ⊥) → eqb (c / w) 0 ≡ leaves w h c d
    unfolding leaves
    leaves_3 l a b e = let q : d ≡ 3 = omega arith in rw q

    -- a cell on the left is one cell back, and one above is a row back
    pub room_left : leaves w h c d ≡ false → d ≡ 0 → 1 ≤ c
    unfolding leaves
    room_left l e =
        let z : eqb (c % w) 0 ≡ false = rw e at l in
        elim (ℕ_discrete (c % w) 0) [ yes g ↦ absurd (eqb-false (c % w) 0 z g) | no g ↦ omega (arith, mod-le c w) ]

    pub room_up : leaves w h c d ≡ false → d ≡ 3 → w ≤ c
    unfolding leaves
    room_up l e =
        let z : eqb (c / w) 0 ≡ false = rw e at l in
        elim (dec_lt c w) [ yes g ↦ absurd (eqb-false (c / w) 0 z (div-eq_of_lt g)) | no g ↦ omega arith ]

-- ---------------------------------------------------------------- cells

module _ (F : Field) (ok : Celled F) where
  pub cell_is : (c : ℕ) → Cell F.index F.count 0 c
  cell_is c = cells_at F.index F.count 0 (spans F) ok.cells c

  pub sum_is : before F.count (length F.count) ≡ spans F
  sum_is = omega (arith, cells_sum F.index F.count 0 (spans F) ok.cells)

  -- a layer of a cell is a span of it
  pub layer_stands : (c j : ℕ) → j < get_or F.count c 0 → Stands F c (get_or F.index c 0 + j)
  layer_stands c j h =
      let starts : get_or F.index c 0 ≡ 0 + before F.count c = (cell_is c).starts (omega arith) in
      let here : get_or F.index c 0 + j ≡ before F.count c + j = omega arith in
      let last = before_lt F.count c (length F.count) j h (in_list F.count c (omega arith)) in
      record { span = omega (arith, sum_is); cell = rw here (cell_of_at F.count c j h) }

  -- the same as a loop over the layers has it, with the cell's index and count read before it, as i and k
  pub stands_at : (c i k j : ℕ) → i ≡ get_or F.index c 0 → k ≡ get_or F.count c 0 → j < k → Stands F c (i + j)
  stands_at c i k j e f h = rw e (layer_stands c j (omega arith))

  -- the cell of a span is in the grid
  pub stands_in : (c s : ℕ) → Stands F c s → c < F.w * F.h
  stands_in c s h =
      let r = cell_of_in F.count s (rw sum_is h.span) in
      omega (arith, r.2, h.cell, ok.counted)

  pub stands_small : (c s : ℕ) → Stands F c s → c < 65536
  stands_small c s h = omega (arith, stands_in c s h, ok.grid)

-- the spans in the cells before c, cell by cell as the loops add them up (the laws' `before` is shut)
unfoldable pub first_of : List ℕ → ℕ → ℕ
first_of ks zero = 0
first_of ks (suc c) = first_of ks c + get_or ks c 0

first_cons : (x : ℕ) (ks : List ℕ) (c : ℕ) → first_of (x ∷ ks) (suc c) ≡ x + first_of ks c
unfolding first_of
first_cons x ks zero = omega arith
first_cons x ks (suc c) = omega (arith, first_cons x ks c)

-- a nonempty cell's index is the number of the spans before it
cells_first : (is ks : List ℕ) (off n : ℕ) → good_cells is ks off n ≡ true → (c : ℕ) → 0 < get_or ks c 0 → get_or is c 0 ≡ off + first_of ks c
unfolding good_cells first_of
cells_first [] [] off n e c h = absurd (omega arith)
cells_first [] (k ∷ ks) off n e c h = absurd (false≢true e)
cells_first (i ∷ is) [] off n e c h = absurd (false≢true e)
cells_first (i ∷ is) (k ∷ ks) off n e zero h = either _ _ _ (both _ _ (both _ _ e).0).1 (λ z. absurd (omega tests)) (λ z. omega tests)
cells_first (i ∷ is) (k ∷ ks) off n e (suc c) h = omega (arith, cells_first is ks (off + k) n (both _ _ e).1 c h, first_cons k ks c)

cells_total : (is ks : List ℕ) (off n : ℕ) → good_cells is ks off n ≡ true → off + first_of ks (length ks) ≡ n
unfolding good_cells first_of
cells_total [] [] off n e = omega tests
cells_total [] (k ∷ ks) off n e = absurd (false≢true e)
cells_total (i ∷ is) [] off n e = absurd (false≢true e)
cells_total (i ∷ is) (k ∷ ks) off n e = omega (arith, cells_total is ks (off + k) n (both _ _ e).1, first_cons k ks (length ks))

module _ (F : Field) (ok : Celled F) where
  pub first_is : (c : ℕ) → 0 < get_or F.count c 0 → get_or F.index c 0 ≡ first_of F.count c
  first_is c h = omega (arith, cells_first F.index F.count 0 (spans F) ok.cells c h)

  pub total_is : first_of F.count (F.w * F.h) ≡ spans F
  total_is = rw (← ok.counted) (omega (arith, cells_total F.index F.count 0 (spans F) ok.cells))

-- ---------------------------------------------------------------- where a connection leads

-- the four connections of a span, read by direction
pub con_at : (F : Field) → Celled F → (s d : ℕ) → s < spans F → d < 4 → con_of F s d ≡ get_or (cons_at F.con s) d 0
unfolding con_of cons_at
con_at F ok s zero h g = let e : 4 * s + 0 ≡ 4 * s = omega arith in rw e (get_d_any F.con (4 * s) 255 0 (omega (arith, ok.linked)))
con_at F ok s (suc zero) h g = get_d_any F.con (4 * s + 1) 255 0 (omega (arith, ok.linked))
con_at F ok s (suc (suc zero)) h g = get_d_any F.con (4 * s + 2) 255 0 (omega (arith, ok.linked))
con_at F ok s (suc (suc (suc zero))) h g = get_d_any F.con (4 * s + 3) 255 0 (omega (arith, ok.linked))
con_at F ok s (suc (suc (suc (suc d)))) h g = absurd (omega arith)

-- the laws have `leads` from all six refusals; five are enough
module _ (F : Field) (ok : Reached F) where
  pub reaches : (s d : ℕ) → s < spans F → d < 4 → (con_of F s d ≡ 255 → ⊥) → Leads F s d
  unfolding good_con
  reaches s d h g k =
      let t = cell_to F.w (cell_of F.count s) d in
      either _ _ _ (ok.reach s d h g)
      (λ e. absurd (k (eqb-true _ _ e)))
      (λ e.
      let b = both _ _ e in
      let layer : con_of F s d < get_or F.count t 0 = ltb-true _ _ b.1 in
      let there = layer_stands F ok.celled t (con_of F s d) layer in
      let starts : get_or F.index t 0 ≡ 0 + before F.count t = (cell_is F ok.celled t).starts (omega arith) in
      let at : near F s d ≡ get_or F.index t 0 + con_of F s d = near_is F s d k in
      record {
        inner = not-true _ b.0;
        layer = layer;
        span = at ∙ omega arith;
        cell = rw at there.cell;
        inside = rw at there.span;
      })

  -- a neighbour stands in the cell across
  pub near_stands : (c s d : ℕ) → Stands F c s → d < 4 → (near F s d ≡ none → ⊥) → Stands F (cell_to F.w c d) (near F s d)
  near_stands c s d h g k =
      let r = reaches s d h.span g (λ e. k (near_none F s d e)) in
      record { span = r.inside; cell = r.cell ∙ ap (λ (x : ℕ). cell_to F.w x d) h.cell }

-- ---------------------------------------------------------------- the leaf, as the code has it

module _ (w : ℕ) (is cons : List ℕ) (c d : ℕ) (g : d < 4) where
  pub leaf_none : get_or cons d 0 ≡ 255 → (F : Field) (s : ℕ) → Leaf F w is cons c s → 65535 ≡ near F s d
  leaf_none k F s v =
      let e : con_of F s d ≡ get_or cons d 0 = rw v.four (con_at F v.reached.celled s d v.stands.span g) in
      sym (near_none F s d (e ∙ k))

  pub leaf_some : (a r : ℕ) → (get_or cons d 0 ≡ 255 → ⊥) → a ≡ cell_to w c d → r ≡ get_or is a 0 + get_or cons d 0
      → (F : Field) (s : ℕ) → Leaf F w is cons c s → r ≡ near F s d
  leaf_some a r k p q F s v =
      let e : con_of F s d ≡ get_or cons d 0 = rw v.four (con_at F v.reached.celled s d v.stands.span g) in
      let n : near F s d ≡ get_or F.index (cell_to F.w (cell_of F.count s) d) 0 + con_of F s d = near_is F s d (λ z. k (sym e ∙ z)) in
      let t : cell_to F.w (cell_of F.count s) d ≡ a = ap (λ (x : ℕ). cell_to F.w x d) v.stands.cell ∙ ap (λ (x : ℕ). cell_to x c d) v.wide ∙ sym p in
      let i : get_or F.index (cell_to F.w (cell_of F.count s) d) 0 ≡ get_or is a 0 = ap (λ (x : ℕ). get_or F.index x 0) t ∙ ap (λ (l : List ℕ). get_or l a 0) v.indexed in
      omega arith

  leaf_leads : (x : SomeLeaf w is cons c) → (get_or cons d 0 ≡ 255 → ⊥) → Leads x.F x.s d
  leaf_leads x k =
      let v = x.leaf in
      let e : con_of x.F x.s d ≡ get_or cons d 0 = rw v.four (con_at x.F v.reached.celled x.s d v.stands.span g) in
      reaches x.F v.reached x.s d v.stands.span g (λ z. k (sym e ∙ z))

  -- it leads to a span, in a cell of the grid
  pub leaf_there : (r : ℕ) → SomeLeaf w is cons c → (get_or cons d 0 ≡ 255 → ⊥) → ((F : Field) (s : ℕ) → Leaf F w is cons c s → r ≡ near F s d) → r ≡ 65535 → ⊥
  leaf_there r x k n z = omega (arith, (leaf_leads x k).inside, n x.F x.s x.leaf, x.leaf.reached.celled.few)

  leaf_inner : (x : SomeLeaf w is cons c) → (get_or cons d 0 ≡ 255 → ⊥) → leaves w x.F.h c d ≡ false
  leaf_inner x k = rw (← x.leaf.wide, ← x.leaf.stands.cell) (leaf_leads x k).inner

  pub leaf_left : SomeLeaf w is cons c → (get_or cons d 0 ≡ 255 → ⊥) → d ≡ 0 → 1 ≤ c
  leaf_left x k = room_left w c d x.F.h (leaf_inner x k)

  pub leaf_up : SomeLeaf w is cons c → (get_or cons d 0 ≡ 255 → ⊥) → d ≡ 3 → w ≤ c
  leaf_up x k = room_up w c d x.F.h (leaf_inner x k)

  -- the cell that it leads to has an index
  pub leaf_in : (a : ℕ) → SomeLeaf w is cons c → (get_or cons d 0 ≡ 255 → ⊥) → a ≡ cell_to w c d → a < length is
  leaf_in a x k p =
      let F = x.F in
      let v = x.leaf in
      let s = x.s in
      let r = leaf_leads x k in
      let t : cell_to F.w (cell_of F.count s) d ≡ a = ap (λ (x : ℕ). cell_to F.w x d) v.stands.cell ∙ ap (λ (x : ℕ). cell_to x c d) v.wide ∙ sym p in
      let z : 0 < get_or F.count (cell_to F.w (cell_of F.count s) d) 0 = omega (arith, r.layer) in
      let l : a < length F.count = in_list F.count a (rw t at z) in
      omega (arith, v.reached.celled.indexed, v.reached.celled.counted, ap length v.indexed)

module _ (w : ℕ) (is cons : List ℕ) (c : ℕ) (v : SomeLeaf w is cons c) where
  pub leaf_narrow : w ≤ 256
  leaf_narrow = omega (arith, v.leaf.wide, v.leaf.reached.celled.narrow)

  pub leaf_small : c < 65536
  leaf_small = stands_small v.F v.leaf.reached.celled c v.s v.leaf.stands

-- ---------------------------------------------------------------- a span at its place, as the code has it

pub spot_leaf : (F : Field) (w : ℕ) (is cs cons : List ℕ) (c s : ℕ) → Spot F w is cs c s → cons ≡ cons_at cs s → Leaf F w is cons c s
spot_leaf F w is cs cons c s v e =
    record { reached = v.reached; wide = v.wide; indexed = v.indexed; four = e ∙ ap (λ (l : List ℕ). cons_at l s) (sym v.linked); stands = v.stands }

pub spot_con : (w : ℕ) (is cs : List ℕ) (c s : ℕ) → SomeSpot w is cs c s → 4 * s + 3 < length cs
spot_con w is cs c s x =
    omega (arith, x.spot.stands.span, x.spot.reached.celled.linked, ap length x.spot.linked)

pub spot_none : (w : ℕ) (is cs cons : List ℕ) (c s d : ℕ) → cons ≡ cons_at cs s → d < 4 → get_or cons d 0 ≡ 255 → (F : Field) → Spot F w is cs c s → 65535 ≡ near F s d
spot_none w is cs cons c s d e g k F v = leaf_none w is cons c d g k F s (spot_leaf F w is cs cons c s v e)

module _ (w : ℕ) (is cs cons : List ℕ) (c s : ℕ) (e : cons ≡ cons_at cs s) where
  pub some_leaf : SomeSpot w is cs c s → SomeLeaf w is cons c
  some_leaf x = record { F = x.F; s = s; leaf = spot_leaf x.F w is cs cons c s x.spot e }

  -- what a step gives, t the span and a the cell
  module _ (d t : ℕ) (n : (F : Field) (s : ℕ) → Leaf F w is cons c s → t ≡ near F s d) where
    pub near_spot : (F : Field) → Spot F w is cs c s → t ≡ near F s d
    near_spot F v = n F s (spot_leaf F w is cs cons c s v e)

    pub step_spot : (F : Field) (a : ℕ) → Spot F w is cs c s → d < 4 → a ≡ cell_to w c d → (t ≡ 65535 → ⊥) → Spot F w is cs a t
    step_spot F a v g p k =
        let q = near_spot F v in
        let r = near_stands F v.reached c s d v.stands g (λ z. k (q ∙ z)) in
        let b : cell_to F.w c d ≡ a = ap (λ (x : ℕ). cell_to x c d) v.wide ∙ sym p in
        record { reached = v.reached; wide = v.wide; indexed = v.indexed; linked = v.linked; stands = stood F (cell_to F.w c d) a (near F s d) t b (sym q) r }
      where
        stood : (F : Field) (a b x y : ℕ) → a ≡ b → x ≡ y → Stands F a x → Stands F b y
        stood F a b x y e f r = record { span = omega (arith, r.span); cell = ap (cell_of F.count) (sym f) ∙ r.cell ∙ e }

pub turned : (d k : ℕ) → (d + k) % 4 < 4
turned d k = mod-lt (d + k) (omega arith)

-- a layer of cell c, as a loop over the cell's layers has it
module _ (w h : ℕ) (is ks ar cs : List ℕ) (c i k j : ℕ) (e : i ≡ get_or is c 0) (f : k ≡ get_or ks c 0) (g : j < k) where
  pub layer_spot : Reached (lent w h is ks ar cs) → Spot (lent w h is ks ar cs) w is cs c (i + j)
  layer_spot ok =
      record { reached = ok; wide = refl; indexed = refl; linked = refl; stands = stands_at (lent w h is ks ar cs) ok.celled c i k j e f g }
