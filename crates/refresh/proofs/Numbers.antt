-- The answer's numbers are the outcome's.
-- Assumes nothing.
use Prim.Native.Nat.{ℕ, ◌+◌}
use Rattle.std.specs.Prelude.{Result}
use mathlib.Core.Path.{◌≡◌, refl, ap, ◌∙◌}
use mathlib.Core.List.{List, [], ◌∷◌}
use lib.ListN.{length}
use Rattle.rules.specs.Field.{Field, spans}
use Rattle.rules.specs.Refusals.{refusal}
use Rattle.rules.specs.Refresh.{Rect, RefreshOutcome, refresh_outcome}
use Rattle.refresh.specs.Answer.{refresh_refused_by, refresh_given}
use Rattle.refresh.specs.Into.{numbers_of, GivesInto}
use Rattle.refresh.specs.declared.RefreshRefusal.{RefreshRefusal}
use Rattle.refresh.specs.declared.Refreshed.{Refreshed}

-- ---------------------------------------------------------------- with the numbers in a list

module _ (F : Field) (q : Rect) (p₀ r₀ b₀ a₀ : List ℕ) where
  pub into_other : (k : ℕ) → (length a₀ ≡ 8 → ⊥) → k ≡ refusal F ((spans F + 1) ∷ (spans F + 1) ∷ []) → GivesInto F q p₀ r₀ b₀ a₀ k p₀ r₀ b₀ a₀
  into_other k n e =
      record {
        refused = λ z. absurd (n z);
        numbers = λ z. absurd (n z);
        pass1 = λ z. absurd (n z);
        raw = λ z. absurd (n z);
        blurred = λ z. absurd (n z);
        other = λ _. e;
        as_was = λ _. (refl, refl, refl, refl);
      }

  pub into_done : (k : ℕ) (p r b a : List ℕ) (x : Result Refreshed RefreshRefusal) → length a₀ ≡ 8 → refresh_given x p r b ≡ refresh_outcome F q p₀ r₀ b₀ → k ≡ refresh_refused_by x
      → a ≡ numbers_of (refresh_given x [] [] []) → GivesInto F q p₀ r₀ b₀ a₀ k p r b a
  into_done k p r b a x n e f g =
      record {
        refused = λ _. f ∙ ap (λ (o : RefreshOutcome). o.refused) e;
        numbers = λ _. g ∙ ap numbers_of e;
        pass1 = λ _. ap (λ (o : RefreshOutcome). o.pass1) e;
        raw = λ _. ap (λ (o : RefreshOutcome). o.raw) e;
        blurred = λ _. ap (λ (o : RefreshOutcome). o.blurred) e;
        other = λ z. absurd (z n);
        as_was = λ z. absurd (z n);
      }
