-- The answers that the check does not find alone.
use Rattle.rules.specs.Base.{upto}
use Rattle.distance.proofs.Walks.{block_go, blur_row_end}
use borrow.Author.Rules.{rules}
use Rattle.distance.proofs.blur.blur_row.Goals as goal

pub loop-x-init : goal.loop-x-init
unfolding upto
loop-x-init c = search rules

pub loop-x-preserved : goal.loop-x-preserved
loop-x-preserved c = (search rules, search rules, search (rules, block_go))

pub returns : goal.returns
returns c = search (rules, blur_row_end)
