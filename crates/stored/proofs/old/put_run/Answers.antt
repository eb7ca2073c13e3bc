-- The record of the run, and where it is the last of its stretch, of the number of spans after it.
use Rattle.stored.proofs.Calls.{first_room, after_room, after_done, alone_done}
use borrow.Author.Rules.{rules}
use Rattle.stored.proofs.old.put_run.Goals as goal

pub put_five-next-requires : goal.put_five-next-requires
put_five-next-requires c = search (rules, first_room)

pub put_mark-requires : goal.put_mark-requires
put_mark-requires c = search (rules, after_room)

pub returns-then-run-eq-STRETCH : goal.returns-then-run-eq-STRETCH
returns-then-run-eq-STRETCH c = search (rules, after_done)

pub returns-else-run-eq-STRETCH : goal.returns-else-run-eq-STRETCH
returns-else-run-eq-STRETCH c = search (rules, alone_done)
