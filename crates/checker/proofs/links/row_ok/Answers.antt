-- The answers that the check does not find alone.
use Rattle.rules.specs.Base.{every}
use Rattle.checker.specs.Links.{in_columns}
use Rattle.checker.proofs.Answered.{blocks_go, blocks_halt, blocks_end}
use borrow.Author.Rules.{rules}
use Rattle.checker.proofs.links.row_ok.Goals as goal

pub loop-x-init : goal.loop-x-init
unfolding in_columns every
loop-x-init c = search rules

pub loop-x-preserved : goal.loop-x-preserved
loop-x-preserved c = (search rules, search (rules, blocks_go))

pub returns-then-not-block_ok : goal.returns-then-not-block_ok
returns-then-not-block_ok c = search (rules, blocks_halt)

pub returns : goal.returns
returns c = search (rules, blocks_end)
