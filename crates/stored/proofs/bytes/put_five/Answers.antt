-- A byte and two numbers written after each other are the record.
use Rattle.stored.proofs.Calls.{five_room, five_then, five_then₂, five_done}
use borrow.Author.Rules.{rules}
use Rattle.stored.proofs.bytes.put_five.Goals as goal

pub put-first-requires : goal.put-first-requires
put-first-requires c = search (rules, five_room)

pub put_word-second-requires : goal.put_word-second-requires
put_word-second-requires c = search (rules, five_then)

pub put_word-requires : goal.put_word-requires
put_word-requires c = search (rules, five_then₂)

pub returns : goal.returns
returns c = search (rules, five_done)
