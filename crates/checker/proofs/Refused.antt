-- The order of the refusals: the first test that fails gives its number.
-- Each module adds what the code knows after one more test has passed.
use Prim.Native.Nat.{ℕ, ◌≤◌, ◌<◌}
use native.Mathlib.Omega.{arith}
use mathlib.Core.Path.{◌≡◌, sym, ◌∙◌}
use mathlib.Core.Bool.{Bool, true, false, not}
use mathlib.Core.List.{List, [], ◌∷◌}
use lib.ListN.{length}
use borrow.Author.Tests.{lt-ltb, le-ltb}
use Rattle.rules.specs.Base.{◌and◌, ◌or◌, when◌then◌else◌, every}
use Rattle.rules.specs.Field.{Field, spans}
use Rattle.rules.specs.Refusals.{good_cells, too_wide, too_many, wrong_length, wrong_cells, wrong_reach, wrong_back, refusal, most_spans}
use Rattle.laws.proofs.Basics.{both}
use Rattle.field.proofs.Passed.{lengths, celled_of}
use Rattle.field.specs.Lent.{Celled, lent}
use Rattle.checker.specs.Links.{reach_at, back_at}
use Rattle.field.proofs.Loops.{product_small}
use Rattle.checker.proofs.Checks.{flip}

not_wide : (F : Field) → F.w ≤ 256 → F.h ≤ 256 → too_wide F ≡ false
unfolding too_wide ◌or◌
not_wide F p q = rw (le-ltb 256 F.w p, le-ltb 256 F.h q)

not-many : (F : Field) → spans F ≤ most_spans → too_many F ≡ false
unfolding too_many
not-many F p = le-ltb most_spans (spans F) p

-- ---------------------------------------------------------------- the numbers, as the code's branches have them

module _ (w h : ℕ) (is ks ar cs : List ℕ) (a b : ℕ) where
  pub refused_w : 256 < w → 1 ≡ refusal (lent w h is ks ar cs) (a ∷ b ∷ [])
  unfolding refusal when◌then◌else◌ too_wide ◌or◌
  refused_w p = rw (lt-ltb 256 w p)

  module _ (p : w ≤ 256) where
    pub refused_h : 256 < h → 1 ≡ refusal (lent w h is ks ar cs) (a ∷ b ∷ [])
    unfolding refusal when◌then◌else◌ too_wide ◌or◌
    refused_h q = rw (le-ltb 256 w p, lt-ltb 256 h q)

    module _ (q : h ≤ 256) where
      pub refused_2 : most_spans < length ar → 2 ≡ refusal (lent w h is ks ar cs) (a ∷ b ∷ [])
      unfolding refusal when◌then◌else◌ too_many
      refused_2 n = rw (not_wide (lent w h is ks ar cs) p q, lt-ltb most_spans (length ar) n)

      module _ (n : length ar ≤ most_spans) (r₃ : Bool) (e₃ : r₃ ≡ not (wrong_length (lent w h is ks ar cs) (a ∷ b ∷ []))) where
        pub refused_3 : r₃ ≡ false → 3 ≡ refusal (lent w h is ks ar cs) (a ∷ b ∷ [])
        unfolding refusal when◌then◌else◌
        refused_3 z = rw (not_wide (lent w h is ks ar cs) p q, not-many (lent w h is ks ar cs) n, flip r₃ (wrong_length (lent w h is ks ar cs) (a ∷ b ∷ [])) false e₃ z)

        module _ (z₃ : r₃ ≡ true) where
          pub same_cells : length ks ≡ length is
          same_cells =
              let l = lengths (lent w h is ks ar cs) (a ∷ b ∷ []) (flip r₃ _ true e₃ z₃) in
              omega (arith, l.indexed, l.counted)

          pub few_cells : length ks ≤ 65536
          few_cells =
              let l = lengths (lent w h is ks ar cs) (a ∷ b ∷ []) (flip r₃ _ true e₃ z₃) in
              omega (arith, l.counted, product_small w h p q)

          module _ (r₄ : Bool) (e₄ : r₄ ≡ good_cells is ks 0 (length ar)) where
            pub refused_4 : r₄ ≡ false → 4 ≡ refusal (lent w h is ks ar cs) (a ∷ b ∷ [])
            unfolding refusal when◌then◌else◌ wrong_cells
            refused_4 z = rw (not_wide (lent w h is ks ar cs) p q, not-many (lent w h is ks ar cs) n, flip r₃ (wrong_length (lent w h is ks ar cs) (a ∷ b ∷ [])) true e₃ z₃, ← e₄, z)

            module _ (z₄ : r₄ ≡ true) where
              pub checked_cells : Celled (lent w h is ks ar cs)
              checked_cells = celled_of (lent w h is ks ar cs) (a ∷ b ∷ []) p q n (flip r₃ _ true e₃ z₃) (sym e₄ ∙ z₄)

              module _ (r₅ : Bool) (e₅ : r₅ ≡ every (length ar) (reach_at (lent w h is ks ar cs))) where
                pub refused_5 : r₅ ≡ false → 5 ≡ refusal (lent w h is ks ar cs) (a ∷ b ∷ [])
                unfolding refusal when◌then◌else◌ wrong_cells wrong_reach reach_at
                refused_5 z = rw (not_wide (lent w h is ks ar cs) p q, not-many (lent w h is ks ar cs) n, flip r₃ (wrong_length (lent w h is ks ar cs) (a ∷ b ∷ [])) true e₃ z₃, ← e₄, z₄, ← e₅, z)

              -- refusals 5 and 6 at once
              module _ (r : Bool) (e : r ≡ every (length ar) (reach_at (lent w h is ks ar cs)) and every (length ar) (back_at (lent w h is ks ar cs))) where
                pub refused_none : r ≡ true → 0 ≡ refusal (lent w h is ks ar cs) (a ∷ b ∷ [])
                unfolding refusal when◌then◌else◌ wrong_cells wrong_reach reach_at wrong_back back_at
                refused_none z = let v = both _ _ (sym e ∙ z) in rw (not_wide (lent w h is ks ar cs) p q, not-many (lent w h is ks ar cs) n, flip r₃ (wrong_length (lent w h is ks ar cs) (a ∷ b ∷ [])) true e₃ z₃, ← e₄, z₄, v.0, v.1)

                pub refused_6 : r ≡ false → (r₅ : Bool) → r₅ ≡ every (length ar) (reach_at (lent w h is ks ar cs)) → r₅ ≡ true → 6 ≡ refusal (lent w h is ks ar cs) (a ∷ b ∷ [])
                unfolding refusal when◌then◌else◌ wrong_cells wrong_reach reach_at wrong_back back_at ◌and◌
                refused_6 z r₅ e₅ z₅ =
                    let v : every (length ar) (back_at (lent w h is ks ar cs)) ≡ false = rw (← e₅, z₅) at (sym e ∙ z) in
                    rw (not_wide (lent w h is ks ar cs) p q, not-many (lent w h is ks ar cs) n, flip r₃ (wrong_length (lent w h is ks ar cs) (a ∷ b ∷ [])) true e₃ z₃, ← e₄, z₄, ← e₅, z₅, v)
