-- The mark is set where the contour was cut short: one store in the column of the marks, or none.
-- Both are what `cut_marked` says.
use Rattle.records.proofs.MarkLaws.{cut_set, cut_left}
use borrow.Author.Rules.{rules}
use Rattle.records.proofs.grow.add_cut.Goals as goal

pub returns-then-cut : goal.returns-then-cut
returns-then-cut c = search (rules, cut_set)

pub returns-else-cut : goal.returns-else-cut
returns-else-cut c = search (rules, cut_left)
