-- A push is a store at the fill of its stack, which lies within the stacks since the fill is below n.
-- No other stack is touched: each has its own n places.
use native.Mathlib.Omega.{arith}
use borrow.Author.Rules.{rules}
use Rattle.levels.proofs.LevelLaws.{slot, moved_push}
use Rattle.levels.proofs.push_level.Goals as goal

pub overflow_mul-stacks : goal.overflow_mul-stacks
overflow_mul-stacks c = omega (arith, (slot _ _ _ _ c.requires.2 c.requires.3))

pub overflow_add-stacks : goal.overflow_add-stacks
overflow_add-stacks c = omega (arith, (slot _ _ _ _ c.requires.2 c.requires.3))

pub offset_bounds-stacks-k : goal.offset_bounds-stacks-k
offset_bounds-stacks-k c = omega (arith, (slot _ _ _ _ c.requires.2 c.requires.3))

pub bounds-stacks-k : goal.bounds-stacks-k
bounds-stacks-k c = omega (arith, (slot _ _ _ _ c.requires.2 c.requires.3))

pub returns : goal.returns
returns c = search (rules, moved_push)
