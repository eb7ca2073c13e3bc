-- By cases on whether the run is the last of its stretch.
use Rattle.stored.proofs.Calls.{mark_tests, mark_none}
use borrow.Author.Rules.{rules}
use Rattle.stored.proofs.old.mark_fits.Goals as goal

pub returns-then-run-ne-STRETCH : goal.returns-then-run-ne-STRETCH
returns-then-run-ne-STRETCH c = search (rules, mark_none)

pub returns-else-run-ne-STRETCH : goal.returns-else-run-ne-STRETCH
returns-else-run-ne-STRETCH c = search (rules, mark_tests)
