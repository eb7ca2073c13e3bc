-- Each arm writes the values of its answer (Numbers).
use Rattle.sizes.proofs.Numbers.{number_refused, sizes_refused, list_refused, number_room, sizes_room, list_room}
use borrow.Author.Rules.{rules}
use Rattle.sizes.proofs.into.put.Goals as goal

pub returns-in-Err : goal.returns-in-Err
returns-in-Err c = (search (rules, number_refused), search (rules, sizes_refused), search (rules, list_refused))

pub returns-in-Ok : goal.returns-in-Ok
returns-in-Ok c = (search (rules, number_room), search (rules, sizes_room), search (rules, list_room))
