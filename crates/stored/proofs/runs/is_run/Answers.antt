-- By cases on the record's kind.
use Rattle.stored.proofs.NewCalls.{run_is, run-not}
use borrow.Author.Rules.{rules}
use Rattle.stored.proofs.runs.is_run.Goals as goal

pub returns-then-file-i-eq-RUN : goal.returns-then-file-i-eq-RUN
returns-then-file-i-eq-RUN c = search (rules, run_is)

pub returns-else-file-i-eq-RUN : goal.returns-else-file-i-eq-RUN
returns-else-file-i-eq-RUN c = search (rules, run-not)
