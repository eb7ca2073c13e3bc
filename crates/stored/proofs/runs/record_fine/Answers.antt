-- By cases on what is due and on the record's kind.
use Rattle.stored.proofs.NewCalls.{mark_kind, mark_other, run_due}
use borrow.Author.Rules.{rules}
use Rattle.stored.proofs.runs.record_fine.Goals as goal

pub returns-then-new-i-eq-MARK : goal.returns-then-new-i-eq-MARK
returns-then-new-i-eq-MARK c = search (rules, mark_kind)

pub returns-else-new-i-eq-MARK : goal.returns-else-new-i-eq-MARK
returns-else-new-i-eq-MARK c = search (rules, mark_other)

pub returns-else-t-eq-STRETCH : goal.returns-else-t-eq-STRETCH
returns-else-t-eq-STRETCH c = search (rules, run_due)
