-- A block without spans leaves the table as it is, since each of its cells has none.
use Rattle.net.proofs.Fills.{cells_none}
use borrow.Author.Rules.{rules}
use Rattle.net.proofs.fill.fill_block.Goals as goal

pub returns-then-is_empty : goal.returns-then-is_empty
returns-then-is_empty c = search (rules, cells_none)
