-- Two results that satisfy the promise of an exported function coincide:
-- the promise is an equation for each number and for each lent list at exit.
use Prim.Native.Nat.{ℕ}
use native.Mathlib.Decide.{ℕ_discrete}
use mathlib.Core.Path.{◌≡◌, sym, ◌∙◌}
use mathlib.Core.List.{List}
use Rattle.rules.specs.Outcomes.{Sizes, DistanceOutcome, RegionOutcome}
use lib.ListN.{length}
use Rattle.rules.specs.Field.{Field}
use Rattle.rules.specs.Mend.{MendOutcome}
use Rattle.rules.specs.Refresh.{Rect, StagesOutcome}
use Rattle.refresh.specs.Into.{GivesInto}
use Rattle.watershed.specs.Into.{ExplainsInto}
use Rattle.watershed.proofs.OneAnswer.{one_explanation_into}
use Rattle.gussetraft.specs.declared.Distances.{Distances}
use Rattle.gussetraft.specs.declared.Regions.{Regions}
use Rattle.gussetraft.specs.declared.Mending.{Mending}
use Rattle.gussetraft.specs.Exported.{Gives, GivesRegions, GivesMending, GivesStages}

distances_same : (a b : Distances) → a.refusal ≡ b.refusal → a.max_distance ≡ b.max_distance → a ≡ b
distances_same a b e f = rw (e, f)

regions-same : (a b : Regions) → a.refusal ≡ b.refusal → a.max_region ≡ b.max_region → a.overlaps ≡ b.overlaps → a.cut ≡ b.cut → a ≡ b
regions-same a b e f g h = rw (e, f, g, h)

-- `gussetraft_build_distance_field`
pub one_distance_answer : (o : DistanceOutcome) (a b : Distances) (l m x y : List ℕ) → Gives o a l m → Gives o b x y → (a ≡ b) × (l ≡ x) × (m ≡ y)
one_distance_answer o a b l m x y p q = (
  distances_same a b (p.refusal ∙ sym q.refusal) (p.most ∙ sym q.most),
  p.first ∙ sym q.first,
  p.second ∙ sym q.second,
)

-- `gussetraft_build_regions`
pub one_region_answer : (o : RegionOutcome) (a b : Regions) (l m x y : List ℕ) → GivesRegions o a l m → GivesRegions o b x y → (a ≡ b) × (l ≡ x) × (m ≡ y)
one_region_answer o a b l m x y p q = (
  regions-same a b (p.refusal ∙ sym q.refusal) (p.most ∙ sym q.most) (p.over ∙ sym q.over) (p.cut ∙ sym q.cut),
  p.cleared ∙ sym q.cleared,
  p.numbers ∙ sym q.numbers,
)

mendings_same : (a b : Mending) → a.refusal ≡ b.refusal → a.count ≡ b.count → a ≡ b
mendings_same a b e f = rw (e, f)

-- `gussetraft_mend`
pub one_mending : (o : MendOutcome) (a b : Mending) (l m x y : List ℕ) → GivesMending o a l m → GivesMending o b x y → (a ≡ b) × (l ≡ x) × (m ≡ y)
one_mending o a b l m x y p q = (
  mendings_same a b (p.refusal ∙ sym q.refusal) (p.many ∙ sym q.many),
  p.left ∙ sym q.left,
  p.listed ∙ sym q.listed,
)

-- `gussetraft_build_distance_stages`
pub one_stages_answer : (o : StagesOutcome) (a b : Distances) (l m n x y z : List ℕ) → GivesStages o a l m n → GivesStages o b x y z → (a ≡ b) × (l ≡ x) × (m ≡ y) × (n ≡ z)
one_stages_answer o a b l m n x y z p q = (
  distances_same a b (p.refusal ∙ sym q.refusal) (p.most ∙ sym q.most),
  p.first ∙ sym q.first,
  p.second ∙ sym q.second,
  p.third ∙ sym q.third,
)

-- `gussetraft_refresh_distance_field_into`, with a list of eight or of another length
pub one_refresh_answer : (F : Field) (q : Rect) (p₀ r₀ b₀ a₀ : List ℕ) (k j : ℕ) (p r b a p' r' b' a' : List ℕ)
    → GivesInto F q p₀ r₀ b₀ a₀ k p r b a → GivesInto F q p₀ r₀ b₀ a₀ j p' r' b' a' → (k ≡ j) × (p ≡ p') × (r ≡ r') × (b ≡ b') × (a ≡ a')
one_refresh_answer F q p₀ r₀ b₀ a₀ k j p r b a p' r' b' a' u v =
    elim (ℕ_discrete (length a₀) 8) [
      | yes e ↦ (
        u.refused e ∙ sym (v.refused e),
        u.pass1 e ∙ sym (v.pass1 e),
        u.raw e ∙ sym (v.raw e),
        u.blurred e ∙ sym (v.blurred e),
        u.numbers e ∙ sym (v.numbers e),
      )
      | no n ↦ (
        u.other n ∙ sym (v.other n),
        (u.as_was n).0 ∙ sym (v.as_was n).0,
        (u.as_was n).1 ∙ sym (v.as_was n).1,
        (u.as_was n).2 ∙ sym (v.as_was n).2,
        (u.as_was n).3 ∙ sym (v.as_was n).3,
      )
    ]

-- `gussetraft_explain_span_into`, with a list of eleven or of another length: its promise is that of `watershed::into::explain_into`
pub one_explain_answer : (F : Field) (dist : List ℕ) (most : ℕ) (z : Sizes) (s : ℕ) (w₀ t₀ a₀ : List ℕ) (k j : ℕ) (w t a w' t' a' : List ℕ)
    → ExplainsInto F dist most z s w₀ t₀ a₀ k w t a → ExplainsInto F dist most z s w₀ t₀ a₀ j w' t' a' → (k ≡ j) × (w ≡ w') × (t ≡ t') × (a ≡ a')
one_explain_answer = one_explanation_into
