-- By cases on what is due.
use Rattle.stored.proofs.NewCalls.{after_mark, after_run}
use borrow.Author.Rules.{rules}
use Rattle.stored.proofs.runs.number_after.Goals as goal

pub returns-then-t-eq-STRETCH : goal.returns-then-t-eq-STRETCH
returns-then-t-eq-STRETCH c = search (rules, after_mark)

pub returns-else-t-eq-STRETCH : goal.returns-else-t-eq-STRETCH
returns-else-t-eq-STRETCH c = search (rules, after_run)
