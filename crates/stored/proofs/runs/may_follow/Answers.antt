-- By cases on whether the ids are the same.
use Rattle.stored.proofs.NewCalls.{follow_same, follow_other}
use borrow.Author.Rules.{rules}
use Rattle.stored.proofs.runs.may_follow.Goals as goal

pub returns-then-x-y : goal.returns-then-x-y
returns-then-x-y c = search (rules, follow_other)

pub returns-else-x-y : goal.returns-else-x-y
returns-else-x-y c = search (rules, follow_same)
