-- `surrounded` is the rule's test of four connections; the first that is none decides.
use native.Mathlib.Omega.{arith}
use mathlib.Core.Path.{sym, ◌∙◌}
use mathlib.Core.Bool.{true≢false}
use borrow.Author.Tests.{ltb-true, le-ltb}
use Rattle.distance.proofs.Values.{ringed_past, ringed_last, ringed_over}
use Rattle.distance.proofs.start.surrounded.Goals as goal
use Rattle.distance.proofs.start.surrounded.Goals.{then-cons-lt-PAST_LAYERS, else-cons-lt-PAST_LAYERS, then-cons-lt-PAST_LAYERS-2, else-cons-lt-PAST_LAYERS-2}

pub returns-then-cons-lt-PAST_LAYERS-3 : goal.returns-then-cons-lt-PAST_LAYERS-3
returns-then-cons-lt-PAST_LAYERS-3 c =
    elim c.if-cons-lt-PAST_LAYERS-2.branch [
      | then-cons-lt-PAST_LAYERS-2 w ↦ elim c.if-cons-lt-PAST_LAYERS.branch [
        | then-cons-lt-PAST_LAYERS u ↦
            ringed_last _ c.requires u.if-cons-lt-PAST_LAYERS.true (ltb-true _ _ (sym u.value-is ∙ w.if-cons-lt-PAST_LAYERS-2.true)) (ltb-true _ _ (sym w.value-is ∙ c.if-cons-lt-PAST_LAYERS-3.true))
        | else-cons-lt-PAST_LAYERS u ↦ absurd (true≢false (sym w.if-cons-lt-PAST_LAYERS-2.true ∙ u.value-is ∙ le-ltb _ _ u.if-cons-lt-PAST_LAYERS.false))
      ]
      | else-cons-lt-PAST_LAYERS-2 w ↦ absurd (true≢false (sym c.if-cons-lt-PAST_LAYERS-3.true ∙ w.value-is ∙ w.if-cons-lt-PAST_LAYERS-2.false))
    ]

pub returns-else-cons-lt-PAST_LAYERS-3 : goal.returns-else-cons-lt-PAST_LAYERS-3
returns-else-cons-lt-PAST_LAYERS-3 c =
    elim c.if-cons-lt-PAST_LAYERS-2.branch [
      | then-cons-lt-PAST_LAYERS-2 w ↦ ringed_over _ 2 c.requires (omega arith) _ w.value-is c.if-cons-lt-PAST_LAYERS-3.false
      | else-cons-lt-PAST_LAYERS-2 w ↦ elim c.if-cons-lt-PAST_LAYERS.branch [
        | then-cons-lt-PAST_LAYERS u ↦ w.value-is ∙ ringed_over _ 1 c.requires (omega arith) _ u.value-is w.if-cons-lt-PAST_LAYERS-2.false
        | else-cons-lt-PAST_LAYERS u ↦ w.value-is ∙ w.if-cons-lt-PAST_LAYERS-2.false ∙ ringed_past _ 0 c.requires (omega arith) u.if-cons-lt-PAST_LAYERS.false
      ]
    ]
