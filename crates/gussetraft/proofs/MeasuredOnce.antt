-- Two results that satisfy the promise of `gussetraft_measure_room_into` coincide, with lists of five and three places or of other lengths: the
-- promise is equations. Assumes nothing.
use Prim.Native.Nat.{ℕ}
use native.Mathlib.Decide.{ℕ_discrete}
use mathlib.Core.Path.{◌≡◌, sym, ◌∙◌}
use mathlib.Core.List.{List}
use lib.ListN.{length}
use lib.Ieee.{Float}
use Rattle.rules.specs.Field.{Field}
use Rattle.sizes.specs.Into.{Places, GivesInto}

module _ (F : Field) (ids : List ℕ) (most k id : ℕ) (s₀ : List Float) (m₀ : List ℕ) (g h : ℕ) (s t : List Float) (m n : List ℕ)
    (u : GivesInto F ids most k id s₀ m₀ g s m) (v : GivesInto F ids most k id s₀ m₀ h t n) where
  fits : Places s₀ m₀ → (g ≡ h) × (s ≡ t) × (m ≡ n)
  fits p = (u.refused p ∙ sym (v.refused p), u.sizes p ∙ sym (v.sizes p), u.numbers p ∙ sym (v.numbers p))

  other : (Places s₀ m₀ → ⊥) → (g ≡ h) × (s ≡ t) × (m ≡ n)
  other p = (u.other p ∙ sym (v.other p), (u.as_was p).0 ∙ sym (v.as_was p).0, (u.as_was p).1 ∙ sym (v.as_was p).1)

  pub one_room_size : (g ≡ h) × (s ≡ t) × (m ≡ n)
  one_room_size = elim (ℕ_discrete (length s₀) 5) [
    | yes a ↦ elim (ℕ_discrete (length m₀) 3) [
      | yes b ↦ fits (record { five = a; three = b })
      | no b ↦ other (λ p. b p.three)
    ]
    | no a ↦ other (λ p. a p.five)
  ]
