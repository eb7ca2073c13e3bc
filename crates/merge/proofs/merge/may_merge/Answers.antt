-- `merge::merge::may_merge` meets its contract: the rule's four tests, in its order.
use native.Mathlib.Omega.{arith}
use Rattle.std.proofs.lemmas.Grind.{common_steps}
use Rattle.pool.specs.Fixed.{may_merge}
use Rattle.table.specs.View.{rec_at}
use Rattle.rules.specs.Base.{◌or◌, ◌and◌}
use Rattle.merge.proofs.merge.may_merge.Goals as goal

pub returns-then-ws-m : goal.returns-then-ws-m
unfolding may_merge rec_at ◌or◌ ◌and◌
returns-then-ws-m c = grind (arith, common_steps)

pub returns-else-ws-m : goal.returns-else-ws-m
unfolding may_merge rec_at ◌or◌ ◌and◌
returns-else-ws-m c = grind (arith, common_steps)

pub returns-else-ws-m-ne0 : goal.returns-else-ws-m-ne0
unfolding may_merge rec_at ◌or◌ ◌and◌
returns-else-ws-m-ne0 c = grind (arith, common_steps)
