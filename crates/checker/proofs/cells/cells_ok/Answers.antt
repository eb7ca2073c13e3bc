-- The answers that the check does not find alone.
use Rattle.checker.proofs.Checks.{cells_turn, cells_stop, cells_done}
use borrow.Author.Rules.{rules}
use Rattle.checker.proofs.cells.cells_ok.Goals as goal

pub loop-i-preserved : goal.loop-i-preserved
loop-i-preserved c = (search rules, search rules, search (rules, cells_turn))

pub returns-then-not-cell_ok : goal.returns-then-not-cell_ok
returns-then-not-cell_ok c = search (rules, cells_stop)

pub returns : goal.returns
returns c = search (rules, cells_done)
