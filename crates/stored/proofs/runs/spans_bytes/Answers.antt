-- By cases on what is due.
use Rattle.stored.proofs.NewCalls.{bytes_mark, bytes_spans}
use borrow.Author.Rules.{rules}
use Rattle.stored.proofs.runs.spans_bytes.Goals as goal

pub returns-then-t-eq-STRETCH : goal.returns-then-t-eq-STRETCH
returns-then-t-eq-STRETCH c = search (rules, bytes_mark)

pub returns-else-t-eq-STRETCH : goal.returns-else-t-eq-STRETCH
returns-else-t-eq-STRETCH c = search (rules, bytes_spans)
