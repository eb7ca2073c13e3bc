-- The answers that the check does not find alone.
use Rattle.field.proofs.Passed.{sound_reached}
use native.Mathlib.Omega.{arith}
use Rattle.refresh.proofs.Turns.{backward_go, backward_stop, backward-end, kept_down, kept_none, kept_zero, kept_size}
use borrow.Author.Rules.{rules}
use Rattle.refresh.proofs.redo.settle2.Goals as goal

pub overflow_step-y : goal.overflow_step-y
overflow_step-y c = let u = sound_reached _ c.requires.0 in omega (arith, u.celled.short)

pub loop-y-init : goal.loop-y-init
loop-y-init c = (search rules, search rules, search rules, search (rules, kept_none), search rules)

pub returns-then-redo2_row : goal.returns-then-redo2_row
returns-then-redo2_row c = (search (rules, backward_stop), search rules, search rules, search (rules, kept_down))

pub loop-y-preserved : goal.loop-y-preserved
loop-y-preserved c = (search rules, search (rules, backward_go), search rules, search (rules, kept_down), search (rules, kept_size))

pub returns : goal.returns
returns c = (search (rules, backward-end), search rules, search rules, search (rules, kept_zero))
