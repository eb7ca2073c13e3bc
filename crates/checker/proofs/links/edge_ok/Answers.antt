-- `edge_ok` tests two connections; the column and the row tell which of them leave the grid.
use Rattle.checker.proofs.Answered.{span_con, span_halt, span-end, side_left, side_down}
use borrow.Author.Rules.{rules}
use Rattle.checker.proofs.links.edge_ok.Goals as goal

pub side_ok-requires : goal.side_ok-requires
side_ok-requires c = ((search rules, search rules), search (rules, span_con), search rules, search (rules, side_left))

pub returns-else-side_ok : goal.returns-else-side_ok
returns-else-side_ok c = search (rules, span_halt)

pub side_ok-requires-then-side_ok : goal.side_ok-requires-then-side_ok
side_ok-requires-then-side_ok c = ((search rules, search rules), search (rules, span_con), search rules, search (rules, side_down))

pub returns-then-side_ok : goal.returns-then-side_ok
returns-then-side_ok c = search (rules, span-end)
