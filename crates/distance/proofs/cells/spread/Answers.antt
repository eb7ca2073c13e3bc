-- The answers that the check does not find alone.
use Rattle.rules.specs.Base.{upto}
use Rattle.distance.proofs.Walks.{cells_block, spread_end}
use borrow.Author.Rules.{rules}
use Rattle.distance.proofs.cells.spread.Goals as goal

pub loop-c-init : goal.loop-c-init
unfolding upto
loop-c-init c = search rules

pub loop-c-preserved : goal.loop-c-preserved
loop-c-preserved c = (search rules, search rules, search rules, search (rules, cells_block))

pub returns : goal.returns
returns c = search (rules, spread_end)
