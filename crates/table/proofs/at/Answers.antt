-- `table::at` meets its contract. Straight line: the element fits, being 16 bits.
use native.Mathlib.Omega.{arith}
use borrow.Author.Rules.{rules}
use Rattle.table.proofs.at.Goals as goal

pub overflow_cast-result : goal.overflow_cast-result
overflow_cast-result c = omega (arith, c.type_inv.l c.args.i)

pub returns : goal.returns
returns c = (search rules, omega (arith, c.type_inv.l c.args.i))
