-- 7 is asked for where 1 to 6 have passed (Checks).
use Rattle.plain.proofs.Checks.{check_refused, check_few, check_short, check_sound}
use native.Mathlib.Omega.{arith}
use borrow.Author.Rules.{rules}
use Rattle.plain.proofs.check_rooms.Goals as goal

pub overflow_mul-field : goal.overflow_mul-field
overflow_mul-field c = omega (arith, check_few _ _ _ c.check.ensures c.in_ok-check.was)

pub overflow_add-field : goal.overflow_add-field
overflow_add-field c = omega (arith, check_few _ _ _ c.check.ensures c.in_ok-check.was)

pub returns-then-work-field : goal.returns-then-work-field
returns-then-work-field c = search (rules, check_short)

pub returns-in_err-check : goal.returns-in_err-check
returns-in_err-check c = search (rules, check_refused)

pub returns : goal.returns
returns c = search (rules, check_sound)
