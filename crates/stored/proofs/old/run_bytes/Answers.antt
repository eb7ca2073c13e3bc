-- By cases on whether the run is the last of its stretch.
use Rattle.stored.proofs.Calls.{ten_bytes, five_bytes}
use borrow.Author.Rules.{rules}
use Rattle.stored.proofs.old.run_bytes.Goals as goal

pub returns-then-run-eq-STRETCH : goal.returns-then-run-eq-STRETCH
returns-then-run-eq-STRETCH c = search (rules, ten_bytes)

pub returns-else-run-eq-STRETCH : goal.returns-else-run-eq-STRETCH
returns-else-run-eq-STRETCH c = search (rules, five_bytes)
