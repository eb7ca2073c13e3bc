-- By cases on the code's two tests.
use Rattle.stored.proofs.Calls.{joins-same, joins-other}
use borrow.Author.Rules.{rules}
use Rattle.stored.proofs.old.joins.Goals as goal

pub returns-then-run-id : goal.returns-then-run-id
returns-then-run-id c = search (rules, joins-same)

pub returns-else-run-id : goal.returns-else-run-id
returns-else-run-id c = search (rules, joins-other)
