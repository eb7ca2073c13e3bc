-- A run that goes on has no number of spans after it.
use Rattle.stored.proofs.Calls.{end_goes, end_tests}
use borrow.Author.Rules.{rules}
use Rattle.stored.proofs.old.end_fits.Goals as goal

pub returns-then-joins : goal.returns-then-joins
returns-then-joins c = search (rules, end_goes)

pub returns-else-joins : goal.returns-else-joins
returns-else-joins c = search (rules, end_tests)
