-- The branch is the rule's own.
use Rattle.checker.proofs.Counted.{most_few, most_many}
use borrow.Author.Rules.{rules}
use Rattle.checker.proofs.tally.at_most.Goals as goal

pub returns-then-n-lt224 : goal.returns-then-n-lt224
returns-then-n-lt224 c = search (rules, most_few)

pub returns-else-n-lt224 : goal.returns-else-n-lt224
returns-else-n-lt224 c = search (rules, most_many)
