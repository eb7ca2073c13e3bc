-- By the rule's two tests.
use borrow.Author.Tests.{eq-eqb, ne_eqb}
use Rattle.rules.specs.Base.{◌and◌, when◌then◌else◌}
use Rattle.filter.proofs.told.gone.Goals as goal
use Rattle.filter.proofs.told.gone.Goals.{else-before-ne0-via-then-before-ne0+else-after-eq0, else-before-ne0-via-else-before-ne0}

pub returns-then-after-eq0 : goal.returns-then-after-eq0
unfolding ◌and◌ when◌then◌else◌
returns-then-after-eq0 c = rw (ne_eqb _ _ c.if-before-ne0.true, eq-eqb _ _ c.if-after-eq0.true)

pub returns-else-before-ne0 : goal.returns-else-before-ne0
unfolding ◌and◌ when◌then◌else◌
returns-else-before-ne0 c = elim c.else-before-ne0.branch [
  | else-before-ne0-via-then-before-ne0+else-after-eq0 w ↦ rw (ne_eqb _ _ w.if-before-ne0.true, ne_eqb _ _ w.if-after-eq0.false)
  | else-before-ne0-via-else-before-ne0 w ↦ rw (eq-eqb _ _ w.if-before-ne0.false)
]
