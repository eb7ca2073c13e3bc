-- "Every reason is what the rules did in that very build", of a call as `explain_span`'s promise has it: the outcome's theorem read through the promise's equation.
-- Assumes nothing.
use Prim.Native.Nat.{ℕ}
use mathlib.Core.Path.{◌≡◌, sym, ap, ◌∙◌}
use mathlib.Core.List.{List}
use Rattle.rules.specs.Field.{Field, Bytes}
use Rattle.rules.specs.Outcomes.{Sizes}
use Rattle.rules.specs.Reasons.{ExplainOutcome, explain_outcome}
use Rattle.reasons.specs.Why.{Means}
use Rattle.reasons.proofs.Why.{explained_means}
use Rattle.watershed.specs.declared.explain.Explanation.{Explanation}
use Rattle.watershed.specs.Explain.{explained}

-- ws and l are workspace and trail before the call; r, ws' and l' what it returns and leaves
pub call_means : (F : Field) (dist : List ℕ) (most : ℕ) (z : Sizes) (s : ℕ) (ws l : List ℕ) (r : Explanation) (ws' l' : List ℕ) → Bytes F
    → explained r ws' l' ≡ explain_outcome F dist most z s ws l → r.refusal ≡ 0 → Means F dist most z s (explained r ws' l')
call_means F dist most z s ws l r ws' l' bytes e ok = rw e (explained_means F dist most z s ws l bytes (sym (ap (λ (x : ExplainOutcome). x.refused) e) ∙ ok))
