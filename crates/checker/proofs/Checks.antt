-- The turns of the checks' loops: what is passed so far holds, the first failure decides the whole, and the end is the rule.
-- The spans of the cells in order are all spans in order, since a nonempty cell's index is the number of the spans before it.
use Prim.Native.Nat.{ℕ, zero, suc, ◌+◌, ◌*◌, ◌≤◌, ◌<◌}
use native.Mathlib.Omega.{arith}
use native.Mathlib.Numerals.{add-one}
use mathlib.Core.Path.{◌≡◌, refl, sym, ap, ◌∙◌}
use mathlib.Core.Bool.{Bool, true, false, not}
use mathlib.Core.List.{List, []}
use lib.ListN.{length, get_or, drop, drop_of_length-le}
use lib.Seq.{drop-cons}
use lib.Dec.{eqb, leb, ltb}
use borrow.Author.Tests.{ne_eqb}
use Rattle.rules.specs.Base.{◌and◌, ◌or◌, every}
use Rattle.rules.specs.Field.{Field, spans, cell_to, leaves}
use Rattle.rules.specs.Refusals.{good_cells, good_con}
use Rattle.laws.proofs.Passes.{across_in}
use Rattle.field.specs.Lent.{Stands, Celled, cons_at, lent}
use Rattle.checker.specs.Links.{names, names_at, reach_at, in_cell}
use Rattle.field.proofs.Loops.{every_halt, every-end, every_ext, every_join}
use Rattle.field.proofs.Places.{layer_stands, con_at, first_of, first_is, total_is, room_left, room_up}

pub flip : (r b : Bool) (s : Bool) → r ≡ not b → r ≡ s → b ≡ not s
flip r true s e f = rw (← f) (ap not (sym e))
flip r false s e f = rw (← f) (ap not (sym e))

-- ---------------------------------------------------------------- refusal 4

module _ (is ks : List ℕ) (n i k x sum : ℕ) (r : Bool) (h : i < length ks) (l : length ks ≡ length is) (e : k ≡ get_or ks i 0) (f : x ≡ get_or is i 0)
    (t : r ≡ (leb k 63 and (eqb k 0 or eqb x sum))) where
  opened : good_cells (drop i is) (drop i ks) sum n ≡ (r and good_cells (drop (i + 1) is) (drop (i + 1) ks) (sum + k) n)
  unfolding good_cells
  opened = rw (add-one, drop-cons is i 0 (omega arith), drop-cons ks i 0 h, ← f, ← e, t)

  pub cells_turn : good_cells is ks 0 n ≡ good_cells (drop i is) (drop i ks) sum n → r ≡ true
      → good_cells is ks 0 n ≡ good_cells (drop (i + 1) is) (drop (i + 1) ks) (sum + k) n
  unfolding ◌and◌
  cells_turn a z = a ∙ opened ∙ rw z refl

  pub cells_stop : good_cells is ks 0 n ≡ good_cells (drop i is) (drop i ks) sum n → r ≡ false → false ≡ good_cells is ks 0 n
  unfolding ◌and◌
  cells_stop a z = sym (a ∙ opened ∙ rw z refl)

pub cells_done : (is ks : List ℕ) (n i sum : ℕ) → i ≤ length ks → length ks ≤ i → length ks ≡ length is
    → good_cells is ks 0 n ≡ good_cells (drop i is) (drop i ks) sum n → eqb sum n ≡ good_cells is ks 0 n
unfolding good_cells
cells_done is ks n i sum h g l a =
    let k : length is ≤ i = omega arith in
    let p : drop i is ≡ [] = drop_of_length-le is k in
    let q : drop i ks ≡ [] = drop_of_length-le ks g in
    sym (a ∙ rw (p, q) refl)

-- ---------------------------------------------------------------- every span, cell by cell

-- a test of the spans before cell c is a test of the cells before it
cells_every : (F : Field) → Celled F → (p : ℕ → Bool) (c : ℕ) → every (first_of F.count c) p ≡ every c (in_cell F p)
unfolding every in_cell first_of
cells_every F ok p zero = refl
cells_every F ok p (suc c) =
    let f = first_of F.count c in
    let k = get_or F.count c 0 in
    let e : every k (λ j. p (f + j)) ≡ every k (λ j. p (get_or F.index c 0 + j)) =
    every_ext k (λ j. p (f + j)) (λ j. p (get_or F.index c 0 + j)) (λ j h. ap (λ (x : ℕ). p (x + j)) (sym (first_is F ok c (omega arith)))) in
    every_join f k p ∙ rw (cells_every F ok p c, e)

pub every_cells : (F : Field) → Celled F → (p : ℕ → Bool) → every (length F.count) (in_cell F p) ≡ every (spans F) p
every_cells F ok p = rw ok.counted (sym (cells_every F ok p (F.w * F.h)) ∙ rw (total_is F ok))

-- the loop over the layers of cell c, with the cell's index and count read before it, as i and k
module _ (F : Field) (p : ℕ → Bool) (c i k j : ℕ) (e : i ≡ get_or F.index c 0) (f : k ≡ get_or F.count c 0) where
  pub layers_halt : (r : Bool) → j < k → r ≡ p (i + j) → r ≡ false → false ≡ in_cell F p c
  unfolding in_cell
  layers_halt r h t z = rw (← e, ← f) (every_halt (λ j. p (i + j)) k j r h t z)

  pub layers_end : every j (λ j. p (i + j)) ≡ true → j ≤ k → k ≤ j → true ≡ in_cell F p c
  unfolding in_cell
  layers_end a h g = rw (← e, ← f) (every-end (λ j. p (i + j)) k j a h g)

-- ---------------------------------------------------------------- refusal 5 of a span

pub names-at : (F : Field) → Celled F → (c s : ℕ) (cons : List ℕ) (r : Bool) → Stands F c s → cons ≡ cons_at F.con s
    → r ≡ every 4 (names_at F.w F.h F.count c cons) → r ≡ reach_at F s
unfolding reach_at names_at names good_con
names-at F ok c s cons r v e t =
    t ∙ every_ext 4 (names_at F.w F.h F.count c cons) (good_con F s)
    (λ d h. rw (e, ← con_at F ok s d v.span h, ← v.cell))

module _ (w h : ℕ) (ks : List ℕ) (c k d : ℕ) where
  pub names-none : k ≡ 255 → true ≡ names w h ks c k d
  unfolding names ◌or◌
  names-none e = rw e

  module _ (r : Bool) (n : k ≡ 255 → ⊥) (l : r ≡ leaves w h c d) where
    pub names_out : r ≡ true → false ≡ names w h ks c k d
    unfolding names ◌or◌ ◌and◌
    names_out z = rw (ne_eqb k 255 n, ← l, z)

    pub names_in : (a : ℕ) → r ≡ false → a ≡ cell_to w c d → ltb k (get_or ks a 0) ≡ names w h ks c k d
    unfolding names ◌or◌ ◌and◌
    names_in a z p = rw (ne_eqb k 255 n, ← l, z, p)

pub across_read : (w h c d a n : ℕ) (r : Bool) → c < w * h → n ≡ w * h → d < 4 → r ≡ leaves w h c d → r ≡ false → a ≡ cell_to w c d → a < n
across_read w h c d a n r g e l p z q = omega (arith, across_in w h c d g l (sym p ∙ z))

pub room_in_left : (w h c d : ℕ) (r : Bool) → r ≡ leaves w h c d → r ≡ false → d ≡ 0 → 1 ≤ c
room_in_left w h c d r p z = room_left w c d h (sym p ∙ z)

pub room_in_up : (w h c d : ℕ) (r : Bool) → r ≡ leaves w h c d → r ≡ false → d ≡ 3 → w ≤ c
room_in_up w h c d r p z = room_up w c d h (sym p ∙ z)

-- ---------------------------------------------------------------- a layer of cell c, as a loop over the cell's layers has it

module _ (w h : ℕ) (is ks ar cs : List ℕ) (c j : ℕ) (g : j < get_or ks c 0) where
  pub con_room : Celled (lent w h is ks ar cs) → 4 * (get_or is c 0 + j) + 3 < length cs
  con_room ok = omega (arith, (layer_stands (lent w h is ks ar cs) ok c j g).span, ok.linked)

  pub layer_reach : (cons : List ℕ) (r : Bool) → Celled (lent w h is ks ar cs) → cons ≡ cons_at cs (get_or is c 0 + j)
      → r ≡ every 4 (names_at w h ks c cons) → r ≡ reach_at (lent w h is ks ar cs) (get_or is c 0 + j)
  layer_reach cons r ok p q = names-at (lent w h is ks ar cs) ok c (get_or is c 0 + j) cons r (layer_stands (lent w h is ks ar cs) ok c j g) p q
