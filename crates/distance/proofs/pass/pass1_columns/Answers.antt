-- The answers that the check does not find alone.
use Rattle.rules.specs.Base.{upto}
use Rattle.distance.specs.Walk.{columns_up}
use Rattle.distance.proofs.Walks.{columns_go, columns_end}
use Rattle.distance.proofs.Bounds.{columns_first, columns_next, columns_last}
use borrow.Author.Rules.{rules}
use Rattle.distance.proofs.pass.pass1_columns.Goals as goal

pub loop-j-init : goal.loop-j-init
unfolding columns_up upto
loop-j-init c = (search rules, search rules, search (rules, columns_first))

pub loop-j-preserved : goal.loop-j-preserved
loop-j-preserved c = (search rules, search (rules, columns_go), search (rules, columns_next))

pub returns : goal.returns
returns c = (search (rules, columns_end), search (rules, columns_last))
