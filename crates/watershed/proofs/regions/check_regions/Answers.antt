-- `watershed::regions::check_regions` meets its contract: 7 is asked for where 1 to 6 have passed, and 8 where 7 has.
use native.Mathlib.Omega.{arith}
use Rattle.watershed.proofs.FarLaws.{few_spans, first_refused, then_seven, then_eight, then_none}
use borrow.Author.Rules.{rules}
use Rattle.watershed.proofs.regions.check_regions.Goals as goal

pub overflow_mul-field : goal.overflow_mul-field
overflow_mul-field c = omega (arith, few_spans _ _ _ c.check.ensures c.in_ok-check.was)

pub overflow_add-field : goal.overflow_add-field
overflow_add-field c = omega (arith, few_spans _ _ _ c.check.ensures c.in_ok-check.was)

pub returns-then-work-field : goal.returns-then-work-field
returns-then-work-field c = search (rules, then_seven)

pub returns-then-too_far : goal.returns-then-too_far
returns-then-too_far c = search (rules, then_eight)

pub returns-in_err-check : goal.returns-in_err-check
returns-in_err-check c = search (rules, first_refused)

pub returns : goal.returns
returns c = search (rules, then_none)
