-- An edit changes where spans start in the rectangle's rows and in the row beside each end alone: a span's start looks at its own area and its
-- neighbours'. Assumes nothing.
use Prim.Native.Nat.{ℕ, suc, ◌≤◌, ◌<◌}
use native.Mathlib.Omega.{arith}
use native.Mathlib.Decide.{dec_lt}
use mathlib.Core.Path.{◌≡◌, sym, ◌∙◌}
use mathlib.Core.List.{List}
use lib.ListN.{get_or-eq_default}
use Rattle.rules.specs.Field.{Field, spans, near, con_of, area_of}
use Rattle.rules.specs.Distance.{same, start_at}
use Rattle.rules.specs.Refresh.{Rect, repainted}
use Rattle.laws.proofs.Basics.{four_ways}
use Rattle.laws.proofs.Cells.{Passed}
use Rattle.door.specs.Edit.{row_of, Within, Edited}
use Rattle.door.proofs.Places.{row_left, row_right, row_below, row_above}

module _ (F : Field) (lens : List ℕ) (ok : Passed F lens) (q : Rect) (area : List ℕ) (edit : Edited F q area) where
  -- a span with its row outside the rectangle's, or none
  area_same : (t : ℕ) → (t < spans F → Within F q t → ⊥) → area_of F t ≡ area_of (repainted F area) t
  unfolding area_of
  area_same t n =
      elim (dec_lt t (spans F)) [
        | yes i ↦ sym (edit.elsewhere t i (n i))
        | no i ↦ get_or-eq_default F.area 256 (omega arith) ∙ sym (get_or-eq_default area 256 (omega (arith, edit.size)))
      ]

  module _ (s : ℕ) (h : s < spans F) (far_off : (t : ℕ) → row_of F s ≤ suc (row_of F t) → row_of F t ≤ suc (row_of F s) → Within F q t → ⊥) where
    same-same : (d : ℕ) → d < 4 → same F s d ≡ same (repainted F area) s d
    unfolding same near con_of
    same-same d g = rw (area_same s (λ _. far_off s (omega arith) (omega arith)), area_same (near F s d) (beside d g))
      where
        beside : (d : ℕ) → d < 4 → near F s d < spans F → Within F q (near F s d) → ⊥
        beside =
            four_ways (λ d. near F s d < spans F → Within F q (near F s d) → ⊥)
            (λ i. let r = row_left F lens ok s h i in far_off (near F s 0) (omega arith) (omega arith))
            (λ i. let r = row_below F lens ok s h i in far_off (near F s 1) (omega arith) (omega arith))
            (λ i. let r = row_right F lens ok s h i in far_off (near F s 2) (omega arith) (omega arith))
            (λ i. let r = row_above F lens ok s h i in far_off (near F s 3) (omega arith) (omega arith))

    start-same : start_at F s ≡ start_at (repainted F area) s
    unfolding start_at
    start-same = rw (same-same 0 (omega arith), same-same 1 (omega arith), same-same 2 (omega arith), same-same 3 (omega arith))

  pub start_before : (s : ℕ) → s < spans F → suc (row_of F s) < q.z0 → start_at F s ≡ start_at (repainted F area) s
  start_before s h g = start-same s h (λ t a b v. omega (arith, v.first))

  pub start-after : (s : ℕ) → s < spans F → suc q.z1 < row_of F s → start_at F s ≡ start_at (repainted F area) s
  start-after s h g = start-same s h (λ t a b v. omega (arith, v.last))
