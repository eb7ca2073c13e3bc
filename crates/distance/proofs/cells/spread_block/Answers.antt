-- A block without spans leaves the list as it is, since each of its cells has none.
use Rattle.distance.proofs.Walks.{cells_none}
use borrow.Author.Rules.{rules}
use Rattle.distance.proofs.cells.spread_block.Goals as goal

pub returns-then-is_empty : goal.returns-then-is_empty
returns-then-is_empty c = search (rules, cells_none)
