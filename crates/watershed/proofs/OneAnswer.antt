-- Two results that satisfy the promise of `explain_span`, or that of `explain_into`, coincide: the promise is an equation for each number and for each lent list at exit.
use Prim.Native.Nat.{ℕ}
use native.Mathlib.Decide.{ℕ_discrete}
use mathlib.Core.Path.{◌≡◌, sym, ap, ◌∙◌}
use mathlib.Core.List.{List}
use lib.ListN.{length}
use Rattle.rules.specs.Field.{Field}
use Rattle.rules.specs.Outcomes.{Sizes}
use Rattle.rules.specs.Reasons.{ExplainOutcome}
use Rattle.watershed.specs.declared.explain.Explanation.{Explanation}
use Rattle.watershed.specs.Explain.{explained}
use Rattle.watershed.specs.Into.{ExplainsInto}

module _ (o : ExplainOutcome) (a b : Explanation) (w t w' t' : List ℕ) (p : explained a w t ≡ o) (q : explained b w' t' ≡ o) where
  one {ℓ} : {A : Type ℓ} (f : ExplainOutcome → A) → f (explained a w t) ≡ f (explained b w' t')
  one f = ap f (p ∙ sym q)

  -- `explain_span`
  pub one_explanation : (a ≡ b) × (w ≡ w') × (t ≡ t')
  one_explanation = (
    same a b (one (λ x. x.refused)) (one (λ x. x.reason)) (one (λ x. x.strip)) (one (λ x. x.group)) (one (λ x. x.least)) (one (λ x. x.grown)) (one (λ x. x.from))
        (one (λ x. x.length)) (one (λ x. x.number)) (one (λ x. x.gave)) (one (λ x. x.objecting)),
    one (λ x. x.workspace),
    one (λ x. x.trail),
  )
    where
      same : (a b : Explanation) → a.refusal ≡ b.refusal → a.reason ≡ b.reason → a.strip ≡ b.strip → a.group_count ≡ b.group_count → a.least_area ≡ b.least_area
          → a.grown_id ≡ b.grown_id → a.from_span ≡ b.from_span → a.trail_length ≡ b.trail_length → a.number ≡ b.number → a.gave_back_id ≡ b.gave_back_id
          → a.objecting_span ≡ b.objecting_span → a ≡ b
      same a b e1 e2 e3 e4 e5 e6 e7 e8 e9 e10 e11 = rw (e1, e2, e3, e4, e5, e6, e7, e8, e9, e10, e11)

-- `explain_into`, with a list of eleven or of another length
pub one_explanation_into : (F : Field) (dist : List ℕ) (most : ℕ) (z : Sizes) (s : ℕ) (w₀ t₀ a₀ : List ℕ) (k j : ℕ) (w t a w' t' a' : List ℕ)
    → ExplainsInto F dist most z s w₀ t₀ a₀ k w t a → ExplainsInto F dist most z s w₀ t₀ a₀ j w' t' a' → (k ≡ j) × (w ≡ w') × (t ≡ t') × (a ≡ a')
one_explanation_into F dist most z s w₀ t₀ a₀ k j w t a w' t' a' u v =
    elim (ℕ_discrete (length a₀) 11) [
      | yes e ↦ (
        u.refused e ∙ sym (v.refused e),
        u.workspace e ∙ sym (v.workspace e),
        u.trail e ∙ sym (v.trail e),
        u.numbers e ∙ sym (v.numbers e),
      )
      | no n ↦ (
        u.other n ∙ sym (v.other n),
        (u.as_was n).0 ∙ sym (v.as_was n).0,
        (u.as_was n).1 ∙ sym (v.as_was n).1,
        (u.as_was n).2 ∙ sym (v.as_was n).2,
      )
    ]
