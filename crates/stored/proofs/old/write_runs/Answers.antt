-- A file of one byte has no span; any other that is fine has one.
use Rattle.stored.proofs.Places.{old_length}
use Rattle.stored.proofs.Calls.{none_room, none-wrote, old_some, whole_room}
use borrow.Author.Rules.{rules}
use Rattle.stored.proofs.old.write_runs.Goals as goal

pub put-requires : goal.put-requires
put-requires c = search (rules, none_room)

pub returns-then-old-eq1 : goal.returns-then-old-eq1
returns-then-old-eq1 c = search (rules, none-wrote)

pub write_some-requires : goal.write_some-requires
write_some-requires c = (search (rules, old_length), search (rules, old_some), search (rules, whole_room))
