-- The answers that the check does not find alone.
use Rattle.rules.specs.Base.{◌or◌}
use Rattle.laws.proofs.Basics.{any_go, any_done}
use borrow.Author.Rules.{rules}
use Rattle.sizes.proofs.any_too_great.Goals as goal

pub loop-i-init : goal.loop-i-init
unfolding ◌or◌
loop-i-init c = search rules

pub loop-i-preserved : goal.loop-i-preserved
loop-i-preserved c = (search rules, search (rules, any_go))

pub returns : goal.returns
returns c = search (rules, any_done)
