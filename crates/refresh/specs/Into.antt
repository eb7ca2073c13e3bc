-- The refresh with its numbers in a lent list.
use Rattle.std.specs.Prelude.{ℕ, ◌+◌, ◌≡◌, List, [], ◌∷◌, length}
use Rattle.rules.specs.Field.{Field, spans}
use Rattle.rules.specs.Refusals.{refusal}
use Rattle.rules.specs.Refresh.{Rect, RefreshOutcome, refresh_outcome}

-- "in the order named": refusal, max_distance, and the first and the last row of pass 1, of pass 2 and of the blur
abbrev pub numbers_of : RefreshOutcome → List ℕ
numbers_of o =
    o.refused ∷ o.most ∷ o.pass1_rows.first ∷ o.pass1_rows.last ∷ o.pass2_rows.first ∷ o.pass2_rows.last ∷ o.blur_rows.first ∷ o.blur_rows.last ∷ []

-- what is given, and the three lists and the answer's list at exit: with eight places the outcome; "another length refused 3", after 1 and 2, and every list
-- is then as it was
pub record GivesInto (F : Field) (q : Rect) (p₀ r₀ b₀ a₀ : List ℕ) (k : ℕ) (p r b a : List ℕ) : Type 0 where
  pub refused : length a₀ ≡ 8 → k ≡ (refresh_outcome F q p₀ r₀ b₀).refused
  pub numbers : length a₀ ≡ 8 → a ≡ numbers_of (refresh_outcome F q p₀ r₀ b₀)
  pub pass1 : length a₀ ≡ 8 → p ≡ (refresh_outcome F q p₀ r₀ b₀).pass1
  pub raw : length a₀ ≡ 8 → r ≡ (refresh_outcome F q p₀ r₀ b₀).raw
  pub blurred : length a₀ ≡ 8 → b ≡ (refresh_outcome F q p₀ r₀ b₀).blurred
  pub other : (length a₀ ≡ 8 → ⊥) → k ≡ refusal F ((spans F + 1) ∷ (spans F + 1) ∷ [])
  pub as_was : (length a₀ ≡ 8 → ⊥) → (p ≡ p₀) × (r ≡ r₀) × (b ≡ b₀) × (a ≡ a₀)
