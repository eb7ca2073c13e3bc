-- A byte and a number written after each other are the record.
use Rattle.stored.proofs.Calls.{span_room, span_then, span_done}
use borrow.Author.Rules.{rules}
use Rattle.stored.proofs.runs.put_span.Goals as goal

pub put-id-requires : goal.put-id-requires
put-id-requires c = search (rules, span_room)

pub put_word-requires : goal.put_word-requires
put_word-requires c = search (rules, span_then)

pub returns : goal.returns
returns c = search (rules, span_done)
