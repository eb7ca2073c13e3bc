-- By cases on what is due: a number of spans holds no span.
use Rattle.stored.proofs.IdCalls.{holds-none, holds_test}
use borrow.Author.Rules.{rules}
use Rattle.stored.proofs.id.run_holds.Goals as goal

pub returns-then-t-ne-STRETCH : goal.returns-then-t-ne-STRETCH
returns-then-t-ne-STRETCH c = search (rules, holds_test)

pub returns-else-t-ne-STRETCH : goal.returns-else-t-ne-STRETCH
returns-else-t-ne-STRETCH c = search (rules, holds-none)
