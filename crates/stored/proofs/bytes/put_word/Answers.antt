-- Two bytes written after each other are the number.
use Rattle.stored.proofs.Calls.{word_room, word_then, word_done}
use borrow.Author.Rules.{rules}
use Rattle.stored.proofs.bytes.put_word.Goals as goal

pub put-next-requires : goal.put-next-requires
put-next-requires c = search (rules, word_room)

pub put-requires : goal.put-requires
put-requires c = search (rules, word_then)

pub returns : goal.returns
returns c = search (rules, word_done)
