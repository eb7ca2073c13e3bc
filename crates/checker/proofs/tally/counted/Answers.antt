-- The branch is the rule's own.
use Rattle.checker.proofs.Counted.{counted_none, counted_some}
use borrow.Author.Rules.{rules}
use Rattle.checker.proofs.tally.counted.Goals as goal

pub returns-then-x-eq-NO_LAYER : goal.returns-then-x-eq-NO_LAYER
returns-then-x-eq-NO_LAYER c = search (rules, counted_none)

pub returns-else-x-eq-NO_LAYER : goal.returns-else-x-eq-NO_LAYER
returns-else-x-eq-NO_LAYER c = search (rules, counted_some)
