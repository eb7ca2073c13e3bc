-- By cases on what is due: a number of spans ends no run.
use Rattle.stored.proofs.NewCalls.{follows_mark, follows_run}
use borrow.Author.Rules.{rules}
use Rattle.stored.proofs.runs.record_follows.Goals as goal

pub returns-then-t-eq-STRETCH : goal.returns-then-t-eq-STRETCH
returns-then-t-eq-STRETCH c = search (rules, follows_mark)

pub returns-else-t-eq-STRETCH : goal.returns-else-t-eq-STRETCH
returns-else-t-eq-STRETCH c = search (rules, follows_run)
