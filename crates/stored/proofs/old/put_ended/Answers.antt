-- Nothing is written for a run that goes on, otherwise its records.
use Rattle.stored.proofs.Calls.{ended_here, ended_room, ended-wrote}
use borrow.Author.Rules.{rules}
use Rattle.stored.proofs.old.put_ended.Goals as goal

pub put_run-requires : goal.put_run-requires
put_run-requires c = search (rules, ended_room)

pub returns-then-joins : goal.returns-then-joins
returns-then-joins c = search (rules, ended_here)

pub returns-else-joins : goal.returns-else-joins
returns-else-joins c = search (rules, ended-wrote)
