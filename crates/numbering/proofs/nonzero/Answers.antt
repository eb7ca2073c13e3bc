-- `numbering::nonzero` meets its contract: those that are 0 and those that are not are all.
use Rattle.numbering.proofs.NumberLaws.{nonzero_is}
use native.Mathlib.Omega.{arith}
use Rattle.numbering.proofs.nonzero.Goals as goal

pub overflow_sub-result : goal.overflow_sub-result
overflow_sub-result c = omega (arith, nonzero_is c.args.l.now)

pub returns : goal.returns
returns c = omega (arith, nonzero_is c.args.l.now)
