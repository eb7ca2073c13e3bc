-- `cell_across` is the rule's list of four, taken direction by direction.
-- The differences stay above 0, since the cell across is in the grid.
use Rattle.field.proofs.Places.{across_0, across_1, across_2, across_3}
use native.Mathlib.Omega.{arith}
use borrow.Author.Rules.{rules}
use Rattle.field.proofs.place.cell_across.Goals as goal

pub overflow_sub-result : goal.overflow_sub-result
overflow_sub-result c = omega (arith, c.requires.3 c.in-0.is)

pub returns-in-0 : goal.returns-in-0
returns-in-0 c = search (rules, across_0)

pub returns-in-1 : goal.returns-in-1
returns-in-1 c = search (rules, across_1)

pub returns-in-2 : goal.returns-in-2
returns-in-2 c = search (rules, across_2)

pub overflow_sub-result-in_default : goal.overflow_sub-result-in_default
overflow_sub-result-in_default c = omega (arith, c.requires.4 (omega arith))

pub returns-in_default : goal.returns-in_default
returns-in_default c = search (rules, across_3)
