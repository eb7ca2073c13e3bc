-- The eight stacks lie within nine times n, so the place fits.
use native.Mathlib.Omega.{arith}
use Rattle.levels.proofs.LevelLaws.{slots}
use Rattle.growth.proofs.turns.turn_stack.Goals as goal

pub overflow_mul-result : goal.overflow_mul-result
overflow_mul-result c = omega (arith, slots c.args.l.turn 8 c.args.n c.requires.1)

pub overflow_add-result : goal.overflow_add-result
overflow_add-result c = omega (arith, slots c.args.l.turn 8 c.args.n c.requires.1)
