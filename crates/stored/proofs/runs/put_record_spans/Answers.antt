-- By cases on what is due.
use Rattle.stored.proofs.NewCalls.{record_here, record_room, record_wrote}
use borrow.Author.Rules.{rules}
use Rattle.stored.proofs.runs.put_record_spans.Goals as goal

pub put_spans-requires : goal.put_spans-requires
put_spans-requires c = search (rules, record_room)

pub returns-then-t-eq-STRETCH : goal.returns-then-t-eq-STRETCH
returns-then-t-eq-STRETCH c = search (rules, record_here)

pub returns-else-t-eq-STRETCH : goal.returns-else-t-eq-STRETCH
returns-else-t-eq-STRETCH c = search (rules, record_wrote)
