-- A run that goes on takes no bytes.
use Rattle.stored.proofs.Calls.{bytes_none, bytes_run}
use borrow.Author.Rules.{rules}
use Rattle.stored.proofs.old.ended_bytes.Goals as goal

pub returns-then-joins : goal.returns-then-joins
returns-then-joins c = search (rules, bytes_none)

pub returns-else-joins : goal.returns-else-joins
returns-else-joins c = search (rules, bytes_run)
