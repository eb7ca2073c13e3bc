-- The turns of the loops over rows, columns and layers, and what all rows come to.
-- The rows in order are all spans in order (laws, Rows), so a stage by rows is the rule's stage.
use Prim.Native.Nat.{ℕ, zero, suc, ◌+◌, ◌*◌, ◌-◌, ◌≤◌, ◌<◌, min}
use native.Mathlib.Omega.{arith}
use native.Mathlib.Nat.{mul_comm, mul-suc, mul-le-mul_left}
use native.Mathlib.Numerals.{add-one}
use lib.Arith.{digits_lt}
use mathlib.Core.Path.{◌≡◌, refl, sym, ap, ◌∙◌}
use mathlib.Core.Bool.{Bool, true}
use mathlib.Core.List.{List}
use lib.ListN.{length, get_or, set}
use lib.Seq.{get_or-set_other, set-get_or}
use borrow.Author.Tests.{lt-leb, le-leb, leb-true}
use Rattle.rules.specs.Base.{when◌then◌else◌, upto}
use Rattle.rules.specs.Field.{Field, spans, near, cell_of}
use Rattle.rules.specs.Distance.{far, least_of, lower, start, pass1, pass2, raw, blur_at, blur}
use Rattle.rules.specs.Rows.{over_cell, downto, column, row_up, row_down, from_start, blur_to, pass1_row, pass2_row, blur_row}
use Rattle.laws.proofs.Basics.{if-ind, upto-ind, upto_join, upto_ext, tab-at, length-tab, get_d_any}
use Rattle.laws.proofs.Rows.{downto_join, spans-upto, stored, pass1_from_start, pass2_from_last}
use mir.Val.{Fits}
use mir.Syntax.{w64}
use Rattle.field.specs.Lent.{Stands, Reached, lent}
use Rattle.field.specs.Blocks.{empty_block}
use Rattle.field.proofs.Blocks.{block_none, upto_still, downto_still, still_cell}
use Rattle.distance.specs.Walk.{columns_up, columns_down, cells_up, spans_up, high_to, note_cell, cells_of}
use Rattle.field.proofs.Places.{stands_at}
use Rattle.field.proofs.Loops.{upto_go, upto-end, product_small}
use Rattle.distance.proofs.Earlier.{earlier, apart}

-- ---------------------------------------------------------------- a loop downward

module _ {ℓ} {A : Type ℓ} where
  -- a loop downward: z is the end, t the state with c to go, and u the next
  pub down_go : (f : ℕ → A → A) (c : ℕ) (z t u : A) → 0 < c → z ≡ downto c f t → u ≡ f (c - 1) t → z ≡ downto (c - 1) f u
  unfolding downto
  down_go f zero z t u h e g = absurd (omega arith)
  down_go f (suc c) z t u h e g = let q : suc c - 1 ≡ c = omega arith in rw q (rw (rw q at g) e)

  down_end : (f : ℕ → A → A) (c : ℕ) (z t : A) → c ≤ 0 → z ≡ downto c f t → t ≡ z
  unfolding downto
  down_end f zero z t h e = sym e
  down_end f (suc c) z t h e = absurd (omega arith)

-- ---------------------------------------------------------------- runs of spans

-- a run from s on, up to span k: none yet, one more, and one run after another
module _ (f : ℕ → List ℕ → List ℕ) where
  pub run-first : (s : ℕ) (l : List ℕ) → l ≡ spans_up f s (s - s) l
  unfolding spans_up upto
  run-first s l = let e : s - s ≡ 0 = omega arith in rw e

  pub run_go : (s k : ℕ) (l m n : List ℕ) → s ≤ k → m ≡ spans_up f s (k - s) l → n ≡ f k m → n ≡ spans_up f s (k + 1 - s) l
  unfolding spans_up
  run_go s k l m n h e g =
      let q : k + 1 - s ≡ k - s + 1 = omega arith in
      let p : k ≡ s + (k - s) = omega arith in
      rw q (upto_go (λ j. f (s + j)) (k - s) l m n e (g ∙ ap (λ (i : ℕ). f i m) p))

  pub run_join : (s a k : ℕ) (l m n : List ℕ) → s ≤ a → a ≤ k → m ≡ spans_up f s (a - s) l → n ≡ spans_up f a (k - a) m → n ≡ spans_up f s (k - s) l
  unfolding spans_up
  run_join s a k l m n h g e d =
      let p : a - s + (k - a) ≡ k - s = omega arith in
      d ∙ ap (upto (k - a) (λ j. f (a + j))) e
      ∙ upto_ext (k - a) (λ j. f (a + j)) (λ j. f (s + (a - s + j))) (upto (a - s) (λ j. f (s + j)) l) (λ j x _. let q : a + j ≡ s + (a - s + j) = omega arith in ap (λ (i : ℕ). f i x) q)
      ∙ sym (upto_join (a - s) (k - a) (λ j. f (s + j)) l) ∙ ap (λ (i : ℕ). upto i (λ j. f (s + j)) l) p

  run_all : (k : ℕ) (l m : List ℕ) → m ≡ spans_up f 0 (k - 0) l → m ≡ upto k f l
  unfolding spans_up
  run_all k l m e =
      let p : k - 0 ≡ k = omega arith in
      e ∙ ap (λ (i : ℕ). upto i (λ j. f (0 + j)) l) p ∙ upto_ext k (λ j. f (0 + j)) f l (λ j x _. let q : 0 + j ≡ j = omega arith in ap (λ (i : ℕ). f i x) q)

-- the values above 2: what is after the last of them stays in pass 2
high_le : (l : List ℕ) (s : ℕ) → high_to l s ≤ s
unfolding high_to
high_le l zero = omega arith
high_le l (suc s) = if-ind (λ r. r ≤ suc s) _ (λ _. omega (arith, high_le l s)) (λ _. omega arith)

pub high_fits : (l : List ℕ) (n m s : ℕ) → s ≡ high_to l n → n ≤ m → s ≤ m
high_fits l n m s e h = omega (arith, high_le l n)

pub high_here : (l : List ℕ) (k : ℕ) → 0 < k → 2 < get_or l (k - 1) 0 → k ≡ high_to l k
unfolding high_to when◌then◌else◌
high_here l zero h g = absurd (omega arith)
high_here l (suc k) h g = let q : suc k - 1 ≡ k = omega arith in rw (lt-leb (get_or l k 0) 2 (rw q at g))

pub high_go : (l : List ℕ) (k z : ℕ) → 0 < k → get_or l (k - 1) 0 ≤ 2 → z ≡ high_to l k → z ≡ high_to l (k - 1)
unfolding high_to when◌then◌else◌
high_go l zero z h g e = absurd (omega arith)
high_go l (suc k) z h g e = let q : suc k - 1 ≡ k = omega arith in rw q (rw (le-leb (get_or l k 0) 2 (rw q at g)) at e)

pub high_none : (l : List ℕ) (k z : ℕ) → k ≤ 0 → z ≡ high_to l k → 0 ≡ z
unfolding high_to
high_none l zero z h e = sym e
high_none l (suc k) z h e = absurd (omega arith)

low_stays : (F : Field) (l : List ℕ) (s a b c e : ℕ) → s < length l → get_or l s 0 ≤ 2 → lower F a b c e s l ≡ l
unfolding lower least_of
low_stays F l s a b c e i h =
    let f : far l s ≡ get_or l s 0 = get_d_any l s 65535 0 i in
    let p = far l (near F s a) in
    let q = far l (near F (near F s a) b) in
    let r = far l (near F s c) in
    let t = far l (near F (near F s c) e) in
    let k : min (far l s) (min (min (p + 2) (q + 3)) (min (r + 2) (t + 3))) ≡ far l s = omega arith in
    ap (set l s) k ∙ set-get_or l s 65535

-- one that is at most 2, and those before it up to the last above 2
pub low_skip : (F : Field) (l z : List ℕ) (s : ℕ) → 0 < s → s ≤ length l → get_or l (s - 1) 0 ≤ 2 → z ≡ downto s (lower F 2 1 1 0) l → z ≡ downto (s - 1) (lower F 2 1 1 0) l
low_skip F l z s h i g e = down_go (lower F 2 1 1 0) s z l l h e (sym (low_stays F l (s - 1) 2 1 1 0 (omega arith) g))

high_rest : (F : Field) (l : List ℕ) (s : ℕ) → s ≤ length l → downto s (lower F 2 1 1 0) l ≡ downto (high_to l s) (lower F 2 1 1 0) l
unfolding high_to downto
high_rest F l zero h = refl
high_rest F l (suc s) h =
    if-ind (λ r. downto s (lower F 2 1 1 0) (lower F 2 1 1 0 s l) ≡ downto r (lower F 2 1 1 0) l) _
    (λ e. ap (downto s (lower F 2 1 1 0)) (low_stays F l s 2 1 1 0 (omega arith) (leb-true (get_or l s 0) 2 e)) ∙ high_rest F l s (omega arith))
    (λ _. refl)

pub high_next : (F : Field) (l z : List ℕ) (s r : ℕ) → r ≡ high_to l s → s ≤ length l → z ≡ downto s (lower F 2 1 1 0) l → z ≡ downto r (lower F 2 1 1 0) l
high_next F l z s r e h g = g ∙ high_rest F l s h ∙ ap (λ (i : ℕ). downto i (lower F 2 1 1 0) l) (sym e)

-- ---------------------------------------------------------------- the turns of the loops

module _ (F : Field) (f : ℕ → List ℕ → List ℕ) where
  -- layers of cell c, with its index and count read before the loop, as i and k
  pub cell-end : (c i k j : ℕ) (l m : List ℕ) → i ≡ get_or F.index c 0 → k ≡ get_or F.count c 0 → m ≡ upto j (λ t. f (i + t)) l → j ≤ k → k ≤ j
      → m ≡ over_cell F f c l
  unfolding over_cell
  cell-end c i k j l m p q e h g = rw (← p, ← q) (upto-end (λ t. f (i + t)) k j l m e h g)

  -- k columns of row y from x on: one more, the end, and none where no span stands in a block
  pub columns_go : (y x j : ℕ) (l m n : List ℕ) → m ≡ columns_up F f y x j l → n ≡ over_cell F f (F.w * y + (x + j)) m → n ≡ columns_up F f y x (j + 1) l
  unfolding columns_up column
  columns_go y x j l m n e g = upto_go (λ i. column F f y (x + i)) j l m n e g

  -- with the place of the first found before the loop
  pub columns_step : (y x a j : ℕ) (l m n : List ℕ) → a ≡ F.w * y + x → m ≡ columns_up F f y x j l → n ≡ over_cell F f (a + j) m → n ≡ columns_up F f y x (j + 1) l
  columns_step y x a j l m n p e g = columns_go y x j l m n e (let q : F.w * y + (x + j) ≡ a + j = omega arith in rw q g)

  pub columns_end : (y x k j : ℕ) (l m : List ℕ) → m ≡ columns_up F f y x j l → j ≤ k → k ≤ j → m ≡ columns_up F f y x k l
  unfolding columns_up
  columns_end y x k j l m e h g = upto-end (λ i. column F f y (x + i)) k j l m e h g

  module _ (y x k : ℕ) (r : Bool) (e : r ≡ empty_block F.count (F.w * y + x) k) (t : r ≡ true) where
    still : (i : ℕ) (l : List ℕ) → i < k → column F f y (x + i) l ≡ l
    unfolding column
    still i l h =
        let q : F.w * y + x + i ≡ F.w * y + (x + i) = omega arith in
        still_cell F f (F.w * y + (x + i)) l (rw q at (block_none F.count (F.w * y + x) k r e t i h))

    pub columns_none : (l : List ℕ) → l ≡ columns_up F f y x k l
    unfolding columns_up
    columns_none l = upto_still k (λ i. column F f y (x + i)) l still

    pub columns_down_none : (l : List ℕ) → l ≡ columns_down F f y x k l
    unfolding columns_down
    columns_down_none l = downto_still k (λ i. column F f y (x + i)) l still

  -- the blocks of row y
  pub block_go : (y x k : ℕ) (l m n : List ℕ) → m ≡ upto x (column F f y) l → n ≡ columns_up F f y x k m → n ≡ upto (x + k) (column F f y) l
  unfolding columns_up
  block_go y x k l m n e g = g ∙ ap (upto k (λ i. column F f y (x + i))) e ∙ sym (upto_join x k (column F f y) l)

  row_end : (y x : ℕ) (l m : List ℕ) → m ≡ upto x (column F f y) l → x ≤ F.w → F.w ≤ x → m ≡ row_up F f y l
  unfolding row_up
  row_end y x l m e h g = upto-end (column F f y) F.w x l m e h g

-- ---------------------------------------------------------------- all cells, block by block

module _ (F : Field) (f : ℕ → List ℕ → List ℕ) (c : ℕ) where
  pub cells_go : (j : ℕ) (l m n : List ℕ) → m ≡ cells_up F f c j l → n ≡ over_cell F f (c + j) m → n ≡ cells_up F f c (j + 1) l
  unfolding cells_up
  cells_go j l m n e g = upto_go (λ i. over_cell F f (c + i)) j l m n e g

  pub cells_end : (k j : ℕ) (l m : List ℕ) → m ≡ cells_up F f c j l → j ≤ k → k ≤ j → m ≡ cells_up F f c k l
  unfolding cells_up
  cells_end k j l m e h g = upto-end (λ i. over_cell F f (c + i)) k j l m e h g

  pub cells_none : (k : ℕ) (r : Bool) (l : List ℕ) → r ≡ empty_block F.count c k → r ≡ true → l ≡ cells_up F f c k l
  unfolding cells_up
  cells_none k r l e t = upto_still k (λ i. over_cell F f (c + i)) l (λ i x h. still_cell F f (c + i) x (block_none F.count c k r e t i h))

  pub cells_block : (k : ℕ) (l m n : List ℕ) → m ≡ upto c (over_cell F f) l → n ≡ cells_up F f c k m → n ≡ upto (c + k) (over_cell F f) l
  unfolding cells_up
  cells_block k l m n e g = g ∙ ap (upto k (λ i. over_cell F f (c + i))) e ∙ sym (upto_join c k (over_cell F f) l)

-- ---------------------------------------------------------------- the cell of each span

pub note_go : (w h : ℕ) (is ks ar cs : List ℕ) (c i k j : ℕ) (l m : List ℕ) → Reached (lent w h is ks ar cs) → i ≡ get_or is c 0 → k ≡ get_or ks c 0 → j < k
    → m ≡ upto j (λ t. note_cell (lent w h is ks ar cs) (i + t)) l → set m (i + j) c ≡ upto (j + 1) (λ t. note_cell (lent w h is ks ar cs) (i + t)) l
unfolding note_cell
note_go w h is ks ar cs c i k j l m ok p q g e =
    upto_go (λ t. note_cell (lent w h is ks ar cs) (i + t)) j l m (set m (i + j) c) e
    (ap (set m (i + j)) (sym (stands_at (lent w h is ks ar cs) ok.celled c i k j p q g).cell))

pub note_in : (w h : ℕ) (is ks ar cs : List ℕ) (c i k j : ℕ) (m : List ℕ) → Reached (lent w h is ks ar cs) → i ≡ get_or is c 0 → k ≡ get_or ks c 0 → j < k
    → length m ≡ length ar → i + j < length m
note_in w h is ks ar cs c i k j m ok p q g n = omega (arith, (stands_at (lent w h is ks ar cs) ok.celled c i k j p q g).span)

-- a cell of one span
module _ (w h : ℕ) (is ks ar cs : List ℕ) (c i k : ℕ) (l : List ℕ) (ok : Reached (lent w h is ks ar cs)) (p : i ≡ get_or is c 0) (q : k ≡ get_or ks c 0) (z : k ≡ 1) where
  pub note_one : set l i c ≡ over_cell (lent w h is ks ar cs) (note_cell (lent w h is ks ar cs)) c l
  unfolding upto
  note_one =
      let e : i ≡ i + 0 = omega arith in
      cell-end (lent w h is ks ar cs) (note_cell (lent w h is ks ar cs)) c i k 1 l (set l i c) p q
      (ap (λ (x : ℕ). set l x c) e ∙ note_go w h is ks ar cs c i k 0 l l ok p q (omega arith) refl) (omega arith) (omega arith)

  pub note_one_in : length l ≡ length ar → i < length l
  note_one_in n = omega (arith, note_in w h is ks ar cs c i k 0 l ok p q (omega arith) n)

pub spread_end : (F : Field) (c n : ℕ) (l m : List ℕ) → Reached F → length l ≡ spans F → n ≡ F.w * F.h → m ≡ upto c (over_cell F (note_cell F)) l → c ≤ n → n ≤ c → m ≡ cells_of F
unfolding cells_of note_cell
spread_end F c n l m ok e d a h g =
    upto-end (over_cell F (note_cell F)) (F.w * F.h) c l m a (omega arith) (omega arith)
    ∙ sym (spans-upto F ok.celled.cells ok.celled.counted (note_cell F) l) ∙ stored (spans F) (cell_of F.count) l e

-- the cell of span s, as a walk over spans reads it
pub cell_stands : (F : Field) (cells : List ℕ) (s n x : ℕ) → cells ≡ cells_of F → s < n → n ≡ spans F → x ≡ get_or cells s 0 → Stands F x s
unfolding cells_of
cell_stands F cells s n x e l q g =
    let z : 0 + s ≡ s = omega arith in
    let h : s < spans F = omega arith in
    record { span = h; cell = sym (g ∙ ap (λ (l : List ℕ). get_or l s 0) e ∙ tab-at (spans F) 0 (cell_of F.count) s 0 h ∙ ap (cell_of F.count) z) }

-- the last of s spans, which a loop downward comes to next
pub last_stands : (F : Field) (cells : List ℕ) (s x : ℕ) → cells ≡ cells_of F → 0 < s → s ≤ spans F → x ≡ get_or cells (s - 1) 0 → Stands F x (s - 1)
last_stands F cells s x e l h g = cell_stands F cells (s - 1) (spans F) x e (omega arith) refl g

pub cells_sized : (F : Field) (cells : List ℕ) → cells ≡ cells_of F → length cells ≡ spans F
unfolding cells_of
cells_sized F cells e = rw e (length-tab (spans F) 0 (cell_of F.count))

-- ---------------------------------------------------------------- the ends

pub pass1_row_end : (F : Field) (y x : ℕ) (l m : List ℕ) → m ≡ upto x (column F (from_start F) y) l → x ≤ F.w → F.w ≤ x → m ≡ pass1_row F y l
unfolding pass1_row
pass1_row_end F y x l m e h g = row_end F (from_start F) y x l m e h g

pub blur_row_end : (F : Field) (r : List ℕ) (y x : ℕ) (l m : List ℕ) → m ≡ upto x (column F (blur_to F r) y) l → x ≤ F.w → F.w ≤ x → m ≡ blur_row F r y l
unfolding blur_row
blur_row_end F r y x l m e h g = row_end F (blur_to F r) y x l m e h g

-- a run over all spans
pub pass1-end : (F : Field) (k m : List ℕ) → Reached F → length k ≡ spans F → m ≡ spans_up (from_start F) 0 (spans F - 0) k → m ≡ pass1 F (start F)
pass1-end F k m ok n e = upto-end (from_start F) (spans F) (spans F) k m (run_all (from_start F) (spans F) k m e) (omega arith) (omega arith) ∙ pass1_from_start F (earlier F ok) k n

pub blur-end : (F : Field) (s d : ℕ) (l k m : List ℕ) → k ≡ cells_of F → m ≡ upto s (blur_to F l) k → s ≤ spans F → d ≡ spans F → d ≤ s → m ≡ blur F l
unfolding blur blur_to
blur-end F s d l k m n e h q f =
    let g : spans F ≤ s = omega arith in
    upto-end (blur_to F l) (spans F) s k m e h g ∙ stored (spans F) (blur_at F l) k (cells_sized F k n)

-- the cells that the blur has not come to
blur_kept : (F : Field) (l k : List ℕ) (s t : ℕ) → s ≤ t → get_or (upto s (blur_to F l) k) t 0 ≡ get_or k t 0
unfolding blur_to
blur_kept F l k s t h = upto-ind (λ _ x. get_or x t 0 ≡ get_or k t 0) (blur_to F l) k s refl (λ i x g e. get_or-set_other x i t (blur_at F l i) 0 (λ z. omega arith) ∙ e)

pub blur_stands : (F : Field) (l k m : List ℕ) (s n x : ℕ) → k ≡ cells_of F → m ≡ upto s (blur_to F l) k → s < n → n ≡ spans F → x ≡ get_or m s 0 → Stands F x s
blur_stands F l k m s n x q e h d g = cell_stands F k s n x q h d (g ∙ ap (λ (y : List ℕ). get_or y s 0) e ∙ blur_kept F l k s s (omega arith))

-- a cell of row y
cell_in : (w h y x : ℕ) → y < h → x < w → w * y + x < w * h
cell_in w h y x g l =
    let z : y * w + x < h * w = digits_lt g l in
    omega (arith, mul_comm y w, mul_comm h w)

module _ (w h : ℕ) (is ks ar cs : List ℕ) (y : ℕ) (ok : Reached (lent w h is ks ar cs)) (g : y < h) where
  row_small : w * y ≤ 65536
  row_small = product_small w y ok.celled.narrow (omega (arith, ok.celled.short))

  pub row_fits : Fits w64 (w * y)
  row_fits = omega (arith, row_small)

  -- column x
  module _ (x : ℕ) (l : x < w) where
    pub column_fits : Fits w64 (w * y + x)
    column_fits = omega (arith, row_small, ok.celled.narrow)

    pub column_in : w * y + x < length ks
    column_in = omega (arith, cell_in w h y x g l, ok.celled.counted)

    pub column_indexed : w * y + x < length is
    column_indexed = omega (arith, cell_in w h y x g l, ok.celled.indexed)

  -- k columns from x on
  module _ (x k : ℕ) (l : x + k ≤ w) where
    pub block_fits : Fits w64 (w * y + x)
    block_fits = omega (arith, row_small, ok.celled.narrow)

    pub block_in : w * y + x + k ≤ length ks
    block_in =
        let e : w * (y + 1) ≤ w * h = mul-le-mul_left w (omega arith) in
        let z : w * (y + 1) ≡ w * y + w = rw add-one (mul-suc w y) in
        omega (arith, ok.celled.counted)

    -- with the place of the first found before the loop
    module _ (a j : ℕ) (e : a ≡ w * y + x) where
      pub place_in : j < k → a + j < length ks
      place_in h = omega (arith, block_in)

      pub place_fits : j < k → Fits w64 (a + j)
      place_fits h = omega (arith, row_small, ok.celled.narrow)

      pub last_in : j ≤ k → 0 < j → a + (j - 1) < length ks
      last_in h m = omega (arith, block_in)

      pub last_fits : j ≤ k → 0 < j → Fits w64 (a + (j - 1))
      last_fits h m = omega (arith, row_small, ok.celled.narrow)

-- the same downward: x columns, or y rows, are to go
module _ (F : Field) (f : ℕ → List ℕ → List ℕ) where
  pub columns_down_lem : (y x a j : ℕ) (l m n : List ℕ) (k : ℕ) → 0 < j → a ≡ F.w * y + x → columns_down F f y x k l ≡ columns_down F f y x j m
      → n ≡ over_cell F f (a + (j - 1)) m → columns_down F f y x k l ≡ columns_down F f y x (j - 1) n
  unfolding columns_down column
  columns_down_lem y x a j l m n k h p e g =
      down_go (λ i. column F f y (x + i)) j (columns_down F f y x k l) m n h e (let q : F.w * y + (x + (j - 1)) ≡ a + (j - 1) = omega arith in rw q g)

  pub columns_bottom : (y x j k : ℕ) (l m : List ℕ) → j ≤ 0 → columns_down F f y x k l ≡ columns_down F f y x j m → m ≡ columns_down F f y x k l
  unfolding columns_down
  columns_bottom y x j k l m h e = down_end (λ i. column F f y (x + i)) j (columns_down F f y x k l) m h e

  pub block_down : (y x k : ℕ) (z m n : List ℕ) → k ≡ min x 16 → z ≡ downto x (column F f y) m → n ≡ columns_down F f y (x - k) k m → z ≡ downto (x - k) (column F f y) n
  unfolding columns_down
  block_down y x k z m n b e g =
      let q : x ≡ x - k + k = omega arith in
      e ∙ ap (λ (i : ℕ). downto i (column F f y) m) q ∙ downto_join (x - k) k (column F f y) m ∙ ap (downto (x - k) (column F f y)) (sym g)

  row_bottom : (y x : ℕ) (l m : List ℕ) → x ≤ 0 → downto F.w (column F f y) l ≡ downto x (column F f y) m → m ≡ row_down F f y l
  unfolding row_down
  row_bottom y x l m h e = down_end (column F f y) x (downto F.w (column F f y) l) m h e

pub pass2_row_end : (F : Field) (y x : ℕ) (l m : List ℕ) → x ≤ 0 → downto F.w (column F (lower F 2 1 1 0) y) l ≡ downto x (column F (lower F 2 1 1 0) y) m → m ≡ pass2_row F y l
unfolding pass2_row
pass2_row_end F y x l m h e = row_bottom F (lower F 2 1 1 0) y x l m h e

pub pass2-end : (F : Field) (s : ℕ) (l m : List ℕ) → Reached F → s ≤ 0 → downto (spans F) (lower F 2 1 1 0) l ≡ downto s (lower F 2 1 1 0) m → m ≡ pass2 F l
pass2-end F s l m ok h e =
    down_end (lower F 2 1 1 0) s (downto (spans F) (lower F 2 1 1 0) l) m h e ∙ pass2_from_last F ok.celled.cells (apart F ok) ok.celled.counted l

pub raw-end : (F : Field) (m n : List ℕ) → m ≡ pass1 F (start F) → n ≡ pass2 F m → n ≡ raw F
unfolding raw
raw-end F m n q r = r ∙ ap (pass2 F) q
