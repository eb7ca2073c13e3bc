-- `met`: the test of the other span is the rule's `twin`, and it or what was met before is the answer.
use mathlib.Core.Path.{◌≡◌, ◌∙◌}
use Rattle.records.specs.Cell.{twin}
use Rattle.records.proofs.CellLaws.{twin_self, twin_other, met_now, met_not}
use Rattle.records.proofs.cell.met.Goals as goal
use Rattle.records.proofs.cell.met.Goals.{then-other-span, else-other-span}

pub returns-then-own-ids : goal.returns-then-own-ids
returns-then-own-ids c =
    let is : c.if-other-span.value ≡ twin c.args.ids.now c.args.other.0 c.args.span.0 c.args.own = elim c.if-other-span.branch [
      | then-other-span w ↦ w.value-is ∙ twin_other _ _ _ _ w.if-other-span.true
      | else-other-span w ↦ w.value-is ∙ twin_self _ _ _ _ w.if-other-span.false
    ] in
    met_now _ _ _ is c.if-own-ids.true

pub returns-else-own-ids : goal.returns-else-own-ids
returns-else-own-ids c =
    let is : c.if-other-span.value ≡ twin c.args.ids.now c.args.other.0 c.args.span.0 c.args.own = elim c.if-other-span.branch [
      | then-other-span w ↦ w.value-is ∙ twin_other _ _ _ _ w.if-other-span.true
      | else-other-span w ↦ w.value-is ∙ twin_self _ _ _ _ w.if-other-span.false
    ] in
    met_not _ _ _ is c.if-own-ids.false
