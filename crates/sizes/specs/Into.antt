-- The record with its values in two lent lists.
use Rattle.std.specs.Prelude.{ℕ, ◌+◌, ◌≡◌, List, [], ◌∷◌, length, Float}
use Rattle.rules.specs.Field.{Field, spans}
use Rattle.rules.specs.Refusals.{refusal}
use Rattle.rules.specs.Sizes.{RoomSize, MeasureOutcome, measure_outcome}

-- in the order named: floor size, least and past x, least and past z
abbrev pub sizes_of : RoomSize → List Float
sizes_of r = r.floor ∷ r.x_least ∷ r.x_past ∷ r.z_least ∷ r.z_past ∷ []

-- refusal, area, count
abbrev pub numbers_of : MeasureOutcome → List ℕ
numbers_of o = o.refused ∷ o.room.area ∷ o.room.count ∷ []

-- five places and three
pub record Places (s₀ : List Float) (m₀ : List ℕ) : Type 0 where
  pub five : length s₀ ≡ 5
  pub three : length m₀ ≡ 3

-- what is given, and the two lists at exit: with five and three places the outcome; "another length refused 3", after 1 and 2, and both lists are then as they were
pub record GivesInto (F : Field) (ids : List ℕ) (most k id : ℕ) (s₀ : List Float) (m₀ : List ℕ) (g : ℕ) (s : List Float) (m : List ℕ) : Type 0 where
  pub refused : Places s₀ m₀ → g ≡ (measure_outcome F ids most k id).refused
  pub sizes : Places s₀ m₀ → s ≡ sizes_of (measure_outcome F ids most k id).room
  pub numbers : Places s₀ m₀ → m ≡ numbers_of (measure_outcome F ids most k id)
  pub other : (Places s₀ m₀ → ⊥) → g ≡ refusal F ((spans F + 1) ∷ (spans F + 1) ∷ [])
  pub as_was : (Places s₀ m₀ → ⊥) → (s ≡ s₀) × (m ≡ m₀)
