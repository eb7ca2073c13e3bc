-- What is told of a span, with its numbers in a lent list.
use Rattle.std.specs.Prelude.{ℕ, ◌+◌, ◌≡◌, List, [], ◌∷◌, length}
use Rattle.rules.specs.Field.{Field, spans}
use Rattle.rules.specs.Refusals.{refusal}
use Rattle.rules.specs.Outcomes.{Sizes}
use Rattle.rules.specs.Reasons.{ExplainOutcome, explain_outcome}
use Rattle.reasons.specs.Why.{Means}

-- the numbers in the order in which they are named
abbrev pub numbers_of : ExplainOutcome → List ℕ
numbers_of o =
    o.refused ∷ o.reason ∷ o.strip ∷ o.group ∷ o.least ∷ o.grown ∷ o.from ∷ o.length ∷ o.number ∷ o.gave ∷ o.objecting ∷ []

-- what is given, and workspace, trail and the answer's list at exit: with eleven places the outcome; another length is refused 3, after 1 and 2, and every
-- list is then as it was
pub record ExplainsInto (F : Field) (dist : List ℕ) (most : ℕ) (z : Sizes) (s : ℕ) (w₀ t₀ a₀ : List ℕ) (k : ℕ) (w t a : List ℕ) : Type 0 where
  pub refused : length a₀ ≡ 11 → k ≡ (explain_outcome F dist most z s w₀ t₀).refused
  pub numbers : length a₀ ≡ 11 → a ≡ numbers_of (explain_outcome F dist most z s w₀ t₀)
  pub workspace : length a₀ ≡ 11 → w ≡ (explain_outcome F dist most z s w₀ t₀).workspace
  pub trail : length a₀ ≡ 11 → t ≡ (explain_outcome F dist most z s w₀ t₀).trail
  pub other : (length a₀ ≡ 11 → ⊥) → k ≡ refusal F ((spans F + 1) ∷ (spans F + 1) ∷ [])
  pub as_was : (length a₀ ≡ 11 → ⊥) → (w ≡ w₀) × (t ≡ t₀) × (a ≡ a₀)

-- with eleven places, and where nothing is refused, the numbers mean what the rules did to the span
pub record ExplainsMeant (F : Field) (dist : List ℕ) (most : ℕ) (z : Sizes) (s : ℕ) (w₀ t₀ a₀ : List ℕ) (k : ℕ) : Type 0 where
  pub means : length a₀ ≡ 11 → k ≡ 0 → Means F dist most z s (explain_outcome F dist most z s w₀ t₀)
