-- Overlap is set where there is a twin: one store in the column of record r, or none.
-- Both are what `marked` says.
use Rattle.records.proofs.StepLaws.{mark_set, mark_left}
use borrow.Author.Rules.{rules}
use Rattle.records.proofs.grow.add_overlap.Goals as goal

pub returns-then-twin : goal.returns-then-twin
returns-then-twin c = search (rules, mark_set)

pub returns-else-twin : goal.returns-else-twin
returns-else-twin c = search (rules, mark_left)
