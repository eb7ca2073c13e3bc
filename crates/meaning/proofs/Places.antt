-- Where spans and their neighbours stand in a field that is not refused: spans stand as their cells do, a neighbour in the cell across, and a
-- neighbour's neighbour is there only where the neighbour is.
use Prim.Native.Nat.{ℕ, suc, ◌+◌, ◌*◌, ◌-◌, ◌/◌, ◌%◌, ◌≤◌, ◌<◌}
use native.Mathlib.Omega.{arith}
use native.Mathlib.Nat.{mod-le, mod-lt, div-eq_of_lt}
use native.Mathlib.Decide.{dec_lt, ℕ_discrete}
use mathlib.Core.Path.{◌≡◌, ap}
use mathlib.Core.Bool.{true}
use mathlib.Core.List.{List}
use lib.ListN.{length, get_or}
use borrow.Author.Tests.{eqb-true, eqb-false, leb-false, ltb-false, not-false}
use Rattle.rules.specs.Field.{Field, spans, none, near, cell_of, cell_to, leaves, con_of}
use Rattle.rules.specs.Refusals.{good_back, too_wide, too_many, wrong_length, wrong_back, most_spans}
use Rattle.laws.proofs.Basics.{both, neither, either, every-at, in_list}
use Rattle.laws.proofs.Cells.{Passed, near_none, before, before_lt, cell_of_in, cell_of_lem, sum_of, Leads, leads}
use Rattle.laws.proofs.Passes.{wide_pos, mod_pred, none-near}

module _ (F : Field) (lens : List ℕ) (ok : Passed F lens) where
  pub few : spans F ≤ 65535
  unfolding too_many
  few = omega (arith, ltb-false most_spans (spans F) ok.many)

  narrow : F.w ≤ 256
  unfolding too_wide
  narrow = omega (arith, ltb-false 256 F.w (neither _ _ ok.wide).0)

  count_length : length F.count ≡ F.w * F.h
  unfolding wrong_length
  count_length = eqb-true _ _ (both _ _ (both _ _ (both _ _ (not-false _ ok.lengths)).0).0).1

  con_length : length F.con ≡ 4 * spans F
  unfolding wrong_length
  con_length = eqb-true _ _ (both _ _ (both _ _ (not-false _ ok.lengths)).0).1

  -- ---------------------------------------------------------------- cells

  -- the cell of a span
  abbrev pub cell : ℕ → ℕ
  cell s = cell_of F.count s

  pub within-cell : (s : ℕ) → s < spans F → (before F.count (cell s) ≤ s) × (s < before F.count (cell s) + get_or F.count (cell s) 0) × (cell s < length F.count)
  within-cell s h = cell_of_in F.count s (rw (sum_of F lens ok) h)

  pub cell_in : (s : ℕ) → s < spans F → cell s < F.w * F.h
  cell_in s h = omega (arith, (within-cell s h).2, count_length)

  -- spans stand as their cells do
  pub in_order : (s t : ℕ) → s < spans F → t < spans F → cell t < cell s → t < s
  in_order s t h g k =
      let a = within-cell t g in
      let b = before_lt F.count (cell t) (cell s) (t - before F.count (cell t)) (omega arith) k in
      omega (arith, (within-cell s h).0)

  -- a layer of a cell is a span
  pub layer_in : (c j : ℕ) → j < get_or F.count c 0 → get_or F.index c 0 + j < spans F
  layer_in c j h =
      omega (
        arith,
        (cell_of_lem F lens ok c).starts (omega arith),
        sum_of F lens ok,
        before_lt F.count c (length F.count) j h (in_list F.count c (omega arith)),
      )

  pub some_column : (s : ℕ) → s < spans F → 0 < F.w
  some_column s h = wide_pos F.w F.h (cell s) (cell_in s h)

  -- a span's column
  abbrev pub column : ℕ → ℕ
  column s = cell s % F.w

  pub column_low : (s : ℕ) → s < spans F → 2 * column s ≤ 510
  column_low s h = omega (arith, mod-lt (cell s) (some_column s h), narrow)

  -- ---------------------------------------------------------------- neighbours

  -- a neighbour is a span, or there is none
  pub near_cases : (P : Type 0) (s d : ℕ) → s < spans F → d < 4 → (near F s d ≡ none → P) → (near F s d < spans F → P) → P
  near_cases P s d h g a b = elim (ℕ_discrete (con_of F s d) 255) [ yes e ↦ a (near_none F s d e) | no e ↦ b (leads F lens ok s d h g e).inside ]

  -- a neighbour's neighbour is there only where the neighbour is
  pub through : (s d e : ℕ) → s < spans F → d < 4 → near F (near F s d) e < spans F → near F s d < spans F
  through s d e h g i =
      near_cases (near F s d < spans F) s d h g
      (λ z. let m : near F (near F s d) e ≡ none = rw z (none-near F e (omega (arith, con_length, few))) in absurd (omega (arith, few)))
      (λ j. j)

  led : (s d : ℕ) → s < spans F → d < 4 → near F s d < spans F → Leads F s d
  led s d h g i = leads F lens ok s d h g (λ z. let n = near_none F s d z in omega (arith, few))

  pub cell-left : (s : ℕ) → s < spans F → near F s 0 < spans F → (suc (cell (near F s 0)) ≡ cell s) × (1 < F.w)
  unfolding leaves cell_to
  cell-left s h i =
      let r = led s 0 h (omega arith) i in
      let n : cell s % F.w ≡ 0 → ⊥ = eqb-false (cell s % F.w) 0 r.inner in
      let m = mod-le (cell s) F.w in
      let o = mod-lt (cell s) (some_column s h) in
      (omega (arith, r.cell), omega arith)

  -- neighbour 0 is one column to the left
  pub column-left : (s : ℕ) → s < spans F → near F s 0 < spans F → suc (column (near F s 0)) ≡ column s
  unfolding leaves cell_to
  column-left s h i =
      let r = led s 0 h (omega arith) i in
      let n : cell s % F.w ≡ 0 → ⊥ = eqb-false (cell s % F.w) 0 r.inner in
      let m : (cell s - 1) % F.w + 1 ≡ cell s % F.w = mod_pred (cell s) F.w (some_column s h) (omega arith) in
      let y : column (near F s 0) ≡ (cell s - 1) % F.w = ap (λ (x : ℕ). x % F.w) r.cell in
      omega arith

  pub cell_down : (s : ℕ) → s < spans F → near F s 1 < spans F → cell (near F s 1) ≡ cell s + F.w
  unfolding cell_to
  cell_down s h i = (led s 1 h (omega arith) i).cell

  pub cell-right : (s : ℕ) → s < spans F → near F s 2 < spans F → (cell (near F s 2) ≡ suc (cell s)) × (1 < F.w)
  unfolding leaves cell_to
  cell-right s h i =
      let r = led s 2 h (omega arith) i in
      let n : cell s % F.w + 1 < F.w = leb-false F.w (cell s % F.w + 1) r.inner in
      (omega (arith, r.cell), omega arith)

  pub cell-up : (s : ℕ) → s < spans F → near F s 3 < spans F → cell (near F s 3) + F.w ≡ cell s
  unfolding leaves cell_to
  cell-up s h i =
      let r = led s 3 h (omega arith) i in
      let n : cell s / F.w ≡ 0 → ⊥ = eqb-false (cell s / F.w) 0 r.inner in
      elim (dec_lt (cell s) F.w) [ yes l ↦ absurd (n (div-eq_of_lt l)) | no l ↦ omega (arith, r.cell) ]

  -- the way back
  pub back : (s d : ℕ) → s < spans F → d < 4 → near F s d < spans F → near F (near F s d) ((d + 2) % 4) ≡ s
  unfolding wrong_back good_back
  back s d h g i =
      let a : good_back F s d ≡ true = every-at 4 (good_back F s) (every-at (spans F) _ (not-false _ ok.back) s h) d g in
      either _ _ _ a (λ e. let n = near_none F s d (eqb-true _ _ e) in absurd (omega (arith, few))) (λ e. eqb-true _ _ e)
