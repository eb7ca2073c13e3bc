-- The answers that the check does not find alone.
use Rattle.stored.proofs.NewCalls.{spans-start, one_room, one_more, one_last}
use borrow.Author.Rules.{rules}
use Rattle.stored.proofs.runs.put_spans.Goals as goal

pub loop-init : goal.loop-init
loop-init c = search (rules, spans-start)

pub put_span-next-requires : goal.put_span-next-requires
put_span-next-requires c = search (rules, one_room)

pub loop-preserved : goal.loop-preserved
loop-preserved c = search (rules, one_more)

pub returns : goal.returns
returns c = search (rules, one_last)
