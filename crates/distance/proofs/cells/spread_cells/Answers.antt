-- The answers that the check does not find alone.
use Rattle.rules.specs.Base.{upto}
use Rattle.distance.specs.Walk.{cells_up}
use Rattle.distance.proofs.Walks.{cells_go, cells_end}
use borrow.Author.Rules.{rules}
use Rattle.distance.proofs.cells.spread_cells.Goals as goal

pub loop-j-init : goal.loop-j-init
unfolding cells_up upto
loop-j-init c = search rules

pub loop-j-preserved : goal.loop-j-preserved
loop-j-preserved c = (search rules, search rules, search (rules, cells_go))

pub returns : goal.returns
returns c = search (rules, cells_end)
