-- The checker's test of one connection is the rule's; a cell with a span is in the grid.
use Rattle.mend.proofs.StepLaws.{cell-wide, cell-small, old_con, inside_is}
use borrow.Author.Rules.{rules}
use Rattle.mend.proofs.link_stays.Goals as goal

pub leaves_grid-inside-requires : goal.leaves_grid-inside-requires
leaves_grid-inside-requires c = (search (rules, cell-wide), search (rules, cell-small), search rules)

pub side_ok-requires : goal.side_ok-requires
side_ok-requires c = ((search rules, search rules), search (rules, old_con), search rules, search (rules, inside_is))
