-- The answers that the check does not find alone.
use Rattle.rules.specs.Base.{upto}
use Rattle.distance.proofs.Walks.{block_go, pass1_row_end}
use Rattle.distance.proofs.Bounds.{column-first, column-last}
use borrow.Author.Rules.{rules}
use Rattle.distance.proofs.pass.pass1_row.Goals as goal

pub loop-x-init : goal.loop-x-init
unfolding upto
loop-x-init c = (search rules, search rules, search (rules, column-first))

pub loop-x-preserved : goal.loop-x-preserved
loop-x-preserved c = (search rules, search (rules, block_go), search rules)

pub returns : goal.returns
returns c = (search (rules, pass1_row_end), search (rules, column-last))
