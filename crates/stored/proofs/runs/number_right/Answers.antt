-- By cases on what is due.
use Rattle.stored.proofs.NewCalls.{number_is, number_none}
use borrow.Author.Rules.{rules}
use Rattle.stored.proofs.runs.number_right.Goals as goal

pub returns-then-t-ne-STRETCH : goal.returns-then-t-ne-STRETCH
returns-then-t-ne-STRETCH c = search (rules, number_none)

pub returns-else-t-ne-STRETCH : goal.returns-else-t-ne-STRETCH
returns-else-t-ne-STRETCH c = search (rules, number_is)
