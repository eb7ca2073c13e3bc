-- A number of four bytes is two of two.
use Rattle.stored.proofs.Calls.{mark_room, mark_done}
use borrow.Author.Rules.{rules}
use Rattle.stored.proofs.bytes.put_mark.Goals as goal

pub put_five-requires : goal.put_five-requires
put_five-requires c = search (rules, mark_room)

pub returns : goal.returns
returns c = search (rules, mark_done)
