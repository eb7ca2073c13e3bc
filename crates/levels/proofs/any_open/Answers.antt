-- The answers that the check does not find alone.
use Rattle.levels.specs.Levels.{any_open}
use Rattle.levels.proofs.BlockLaws.{any_go, any_all}
use borrow.Author.Rules.{rules}
use Rattle.levels.proofs.any_open.Goals as goal

pub loop-i-init : goal.loop-i-init
unfolding any_open
loop-i-init c = search rules

pub loop-i-preserved : goal.loop-i-preserved
loop-i-preserved c = (search rules, search (rules, any_go))

pub returns : goal.returns
returns c = search (rules, any_all)
