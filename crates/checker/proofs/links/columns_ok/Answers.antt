-- The answers that the check does not find alone.
use Rattle.rules.specs.Base.{every}
use Rattle.checker.specs.Links.{in_columns}
use Rattle.checker.proofs.Answered.{columns_go, columns_halt, columns_end}
use borrow.Author.Rules.{rules}
use Rattle.checker.proofs.links.columns_ok.Goals as goal

pub loop-j-init : goal.loop-j-init
unfolding in_columns every
loop-j-init c = search rules

pub returns-then-not-column_ok : goal.returns-then-not-column_ok
returns-then-not-column_ok c = search (rules, columns_halt)

pub loop-j-preserved : goal.loop-j-preserved
loop-j-preserved c = (search rules, search (rules, columns_go))

pub returns : goal.returns
returns c = search (rules, columns_end)
