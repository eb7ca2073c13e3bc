-- `merge::pick::better` meets its contract: the rule's tests, in its order.
use native.Mathlib.Omega.{arith}
use Rattle.std.proofs.lemmas.Grind.{common_steps}
use Rattle.pool.specs.Fixed.{better}
use Rattle.table.specs.View.{rec_at}
use Rattle.rules.specs.Base.{◌and◌}
use Rattle.merge.proofs.pick.better.Goals as goal

pub returns-then-can_merge_with : goal.returns-then-can_merge_with
unfolding better rec_at ◌and◌
returns-then-can_merge_with c = grind (arith, common_steps)

pub returns-else-can_merge_with : goal.returns-else-can_merge_with
unfolding better rec_at ◌and◌
returns-else-can_merge_with c = grind (arith, common_steps)
