-- By cases on what is due.
use Rattle.stored.proofs.NewCalls.{spans_stay, spans_more}
use borrow.Author.Rules.{rules}
use Rattle.stored.proofs.runs.spans_after.Goals as goal

pub returns-then-t-eq-STRETCH : goal.returns-then-t-eq-STRETCH
returns-then-t-eq-STRETCH c = (search (rules, spans_stay), search rules)

pub returns-else-t-eq-STRETCH : goal.returns-else-t-eq-STRETCH
returns-else-t-eq-STRETCH c = (search (rules, spans_more), search rules)
