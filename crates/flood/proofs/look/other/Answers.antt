-- `other` is the rule's test, in two tests.
use borrow.Author.Tests.{eq-eqb, ne_eqb}
use Rattle.rules.specs.Base.{◌and◌}
use Rattle.flood.proofs.look.other.Goals as goal

pub returns-then-region : goal.returns-then-region
unfolding ◌and◌
returns-then-region c = rw (ne_eqb _ _ c.if-region.true)

pub returns-else-region : goal.returns-else-region
unfolding ◌and◌
returns-else-region c = rw (eq-eqb _ _ c.if-region.false)
