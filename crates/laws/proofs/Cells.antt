-- What a field that is not refused is like: each span lies in one cell, and a connection leads to the span that the rule names.
-- The refusals' tests, taken apart: cells stand in order with their counts before them, and a layer is below the count of its cell.
use Prim.Native.Nat.{ℕ, zero, suc, ◌+◌, ◌-◌, ◌≤◌, ◌<◌}
use native.Mathlib.Omega.{arith}
use mathlib.Core.Path.{◌≡◌, refl, ap, ◌∙◌}
use mathlib.Core.Bool.{Bool, true, false, false≢true}
use mathlib.Core.List.{List, [], ◌∷◌}
use lib.ListN.{length, get_or}
use borrow.Author.Tests.{eqb-true, eqb-false, leb-true, ltb-true, not-true, not-false}
use Rattle.rules.specs.Base.{when◌then◌else◌, every}
use Rattle.rules.specs.Field.{Field, spans, none, near, cell_of, cell_to, leaves, con_of}
use Rattle.rules.specs.Refusals.{good_cells, good_con, too_wide, too_many, wrong_length, wrong_cells, wrong_reach, wrong_back, refusal}
use Rattle.laws.proofs.Basics.{both, either, if-ind, tests, every-at, in_list}

-- ---------------------------------------------------------------- not refused

-- a choice of a number above 0, or the rest, that came to 0
pub fell : (b : Bool) (k r : ℕ) → 0 < k → (when b then k else r) ≡ 0 → (b ≡ false) × (r ≡ 0)
unfolding when◌then◌else◌
fell true k r h e = absurd (omega arith)
fell false k r h e = (refl, e)

pub record Passed (F : Field) (lens : List ℕ) : Type 0 where
  pub wide : too_wide F ≡ false
  pub many : too_many F ≡ false
  pub lengths : wrong_length F lens ≡ false
  pub cells : wrong_cells F ≡ false
  pub reach : wrong_reach F ≡ false
  pub back : wrong_back F ≡ false

pub passed : (F : Field) (lens : List ℕ) → refusal F lens ≡ 0 → Passed F lens
unfolding refusal
passed F lens e =
    let a = fell _ _ _ (omega arith) e in
    let b = fell _ _ _ (omega arith) a.1 in
    let c = fell _ _ _ (omega arith) b.1 in
    let d = fell _ _ _ (omega arith) c.1 in
    let f = fell _ _ _ (omega arith) d.1 in
    let g = fell _ _ _ (omega arith) f.1 in
    record { wide = a.0; many = b.0; lengths = c.0; cells = d.0; reach = f.0; back = g.0 }

-- ---------------------------------------------------------------- cells

-- the sum of the counts before cell c
pub before : List ℕ → ℕ → ℕ
before [] c = 0
before (k ∷ ks) zero = 0
before (k ∷ ks) (suc c) = k + before ks c

pub before_next : (ks : List ℕ) (c : ℕ) → before ks (suc c) ≡ before ks c + get_or ks c 0
unfolding before
before_next [] c = refl
before_next (k ∷ []) zero = omega arith
before_next (k ∷ x ∷ ks) zero = omega arith
before_next (k ∷ ks) (suc c) = omega (arith, before_next ks c)

pub before_none : (ks : List ℕ) → before ks 0 ≡ 0
unfolding before
before_none [] = refl
before_none (k ∷ ks) = refl

pub cell_of_at : (ks : List ℕ) (c k : ℕ) → k < get_or ks c 0 → cell_of ks (before ks c + k) ≡ c
unfolding cell_of before
cell_of_at [] c k h = omega arith
cell_of_at (x ∷ ks) zero k h = if-ind (λ r. r ≡ 0) _ (λ _. refl) (λ e. absurd (omega tests))
cell_of_at (x ∷ ks) (suc c) k h =
    if-ind (λ r. r ≡ suc c) _
    (λ e. absurd (omega tests))
    (λ _. let q : x + before ks c + k - x ≡ before ks c + k = omega arith in ap suc (rw q (cell_of_at ks c k h)))

-- cells stand in order
pub before_lt : (ks : List ℕ) (c e k : ℕ) → k < get_or ks c 0 → c < e → before ks c + k < before ks e
unfolding before
before_lt [] c e k h g = omega arith
before_lt (x ∷ ks) zero zero k h g = omega arith
before_lt (x ∷ ks) zero (suc e) k h g = omega arith
before_lt (x ∷ ks) (suc c) zero k h g = omega arith
before_lt (x ∷ ks) (suc c) (suc e) k h g = omega (arith, before_lt ks c e k h (omega arith))

-- a span is in a cell
pub cell_of_in : (ks : List ℕ) (s : ℕ) → s < before ks (length ks) → (before ks (cell_of ks s) ≤ s) × (s < before ks (cell_of ks s) + get_or ks (cell_of ks s) 0) × (cell_of ks s < length ks)
unfolding cell_of before
cell_of_in [] s h = absurd (omega arith)
cell_of_in (x ∷ ks) s h =
    if-ind (λ c. (before (x ∷ ks) c ≤ s) × (s < before (x ∷ ks) c + get_or (x ∷ ks) c 0) × (c < suc (length ks))) _
    (λ e. (omega arith, omega tests, omega arith))
    (λ e. let r = cell_of_in ks (s - x) (omega tests) in (omega tests, omega tests, omega tests))

-- what the test of the cells says of each
pub record Cell (index count : List ℕ) (off c : ℕ) : Type 0 where
  pub few : get_or count c 0 ≤ 63
  pub starts : 0 < get_or count c 0 → get_or index c 0 ≡ off + before count c

pub cells_at : (is ks : List ℕ) (off n : ℕ) → good_cells is ks off n ≡ true → (c : ℕ) → Cell is ks off c
unfolding good_cells before
cells_at [] [] off n e c = record { few = omega arith; starts = λ h. absurd (omega arith) }
cells_at [] (k ∷ ks) off n e c = absurd (false≢true e)
cells_at (i ∷ is) [] off n e c = absurd (false≢true e)
cells_at (i ∷ is) (k ∷ ks) off n e zero =
    let a = both _ _ e in
    let b = both _ _ a.0 in
    record { few = leb-true k 63 b.0; starts = λ h. either _ _ _ b.1 (λ z. absurd (omega tests)) (λ z. omega tests) }
cells_at (i ∷ is) (k ∷ ks) off n e (suc c) =
    let a = both _ _ e in
    let r = cells_at is ks (off + k) n a.1 c in
    record { few = r.few; starts = λ h. let q = r.starts h in omega arith }

pub cells_sum : (is ks : List ℕ) (off n : ℕ) → good_cells is ks off n ≡ true → off + before ks (length ks) ≡ n
unfolding good_cells before
cells_sum [] [] off n e = omega tests
cells_sum [] (k ∷ ks) off n e = absurd (false≢true e)
cells_sum (i ∷ is) [] off n e = absurd (false≢true e)
cells_sum (i ∷ is) (k ∷ ks) off n e = omega (arith, cells_sum is ks (off + k) n (both _ _ e).1)

-- ---------------------------------------------------------------- where a connection leads

-- span s has a connection in direction d: its cell, the cell that it leads to, and the span there
pub record Leads (F : Field) (s d : ℕ) : Type 0 where
  pub inner : leaves F.w F.h (cell_of F.count s) d ≡ false
  pub layer : con_of F s d < get_or F.count (cell_to F.w (cell_of F.count s) d) 0
  pub span : near F s d ≡ before F.count (cell_to F.w (cell_of F.count s) d) + con_of F s d
  pub cell : cell_of F.count (near F s d) ≡ cell_to F.w (cell_of F.count s) d
  pub inside : near F s d < spans F

pub near_none : (F : Field) (s d : ℕ) → con_of F s d ≡ 255 → near F s d ≡ none
unfolding near
near_none F s d k = if-ind (λ r. r ≡ none) _ (λ _. refl) (λ e. absurd (eqb-false _ _ e k))

pub near_is : (F : Field) (s d : ℕ) → (con_of F s d ≡ 255 → ⊥) → near F s d ≡ get_or F.index (cell_to F.w (cell_of F.count s) d) 0 + con_of F s d
unfolding near
near_is F s d k = if-ind (λ r. r ≡ get_or F.index (cell_to F.w (cell_of F.count s) d) 0 + con_of F s d) _ (λ e. absurd (k (eqb-true _ _ e))) (λ _. refl)

module _ (F : Field) (lens : List ℕ) (ok : Passed F lens) where
  pub cell_of_lem : (c : ℕ) → Cell F.index F.count 0 c
  unfolding wrong_cells
  cell_of_lem c = cells_at F.index F.count 0 (spans F) (not-false _ ok.cells) c

  pub sum_of : before F.count (length F.count) ≡ spans F
  unfolding wrong_cells
  sum_of = omega (arith, cells_sum F.index F.count 0 (spans F) (not-false _ ok.cells))

  pub leads : (s d : ℕ) → s < spans F → d < 4 → (con_of F s d ≡ 255 → ⊥) → Leads F s d
  unfolding wrong_reach good_con
  leads s d h g k =
      let c = cell_of F.count s in
      let a : good_con F s d ≡ true = every-at 4 (good_con F s) (every-at (spans F) (λ s. every 4 (good_con F s)) (not-false _ ok.reach) s h) d g in
      either _ _ _ a
      (λ e. absurd (k (eqb-true _ _ e)))
      (λ e.
      let b = both _ _ e in
      let t = cell_to F.w c d in
      let layer : con_of F s d < get_or F.count t 0 = ltb-true _ _ b.1 in
      let starts : get_or F.index t 0 ≡ 0 + before F.count t = (cell_of_lem t).starts (omega arith) in
      let span : near F s d ≡ before F.count t + con_of F s d = near_is F s d k ∙ omega arith in
      let last = before_lt F.count t (length F.count) (con_of F s d) layer (in_list F.count t (omega arith)) in
      record {
        inner = not-true _ b.0;
        layer = layer;
        span = span;
        cell = rw span (cell_of_at F.count t (con_of F s d) layer);
        inside = rw span (omega (arith, sum_of));
      })
