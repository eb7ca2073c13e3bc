-- `filter::remove::small` meets its contract: the rule's two tests, in its order.
use borrow.Author.Tests.{le-ltb}
use Rattle.filter.proofs.RemoveLaws.{large, small_by}
use Rattle.filter.proofs.remove.small.Goals as goal

pub returns-then-count-least : goal.returns-then-count-least
returns-then-count-least c = search small_by

pub returns-else-count-least : goal.returns-else-count-least
returns-else-count-least c = rw (le-ltb c.args.count c.args.least c.if-count-least.false) (search large)
