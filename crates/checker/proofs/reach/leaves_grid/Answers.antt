-- `leaves_grid` is the rule's list of four tests, taken direction by direction; a quotient or remainder of c is at most c, so 1 more fits.
use Rattle.field.proofs.Places.{leaves_0, leaves_1, leaves_2, leaves_3}
use native.Mathlib.Nat.{mod-le, div-le_self}
use native.Mathlib.Omega.{arith}
use borrow.Author.Rules.{rules}
use Rattle.checker.proofs.reach.leaves_grid.Goals as goal

pub returns-in-0 : goal.returns-in-0
returns-in-0 c = search (rules, leaves_0)

pub overflow_add-result : goal.overflow_add-result
overflow_add-result c = omega (arith, div-le_self c.args.c c.args.w)

pub returns-in-1 : goal.returns-in-1
returns-in-1 c = search (rules, leaves_1)

pub overflow_add-result-in-2 : goal.overflow_add-result-in-2
overflow_add-result-in-2 c = omega (arith, mod-le c.args.c c.args.w)

pub returns-in-2 : goal.returns-in-2
returns-in-2 c = search (rules, leaves_2)

pub returns-in_default : goal.returns-in_default
returns-in_default c = search (rules, leaves_3)
