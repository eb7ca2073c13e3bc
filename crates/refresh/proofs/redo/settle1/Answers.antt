-- The answers that the check does not find alone.
use Rattle.field.proofs.Passed.{sound_reached}
use native.Mathlib.Omega.{arith}
use Rattle.refresh.proofs.Turns.{onward_go, onward_stop, onward-end, kept_up, kept_none, kept_all, kept_size}
use borrow.Author.Rules.{rules}
use Rattle.refresh.proofs.redo.settle1.Goals as goal

pub overflow_step-y : goal.overflow_step-y
overflow_step-y c = let u = sound_reached _ c.requires.0 in omega (arith, u.celled.short)

pub loop-y-init : goal.loop-y-init
loop-y-init c = (search rules, search rules, search rules, search rules, search (rules, kept_none), search rules)

pub returns-then-redo1_row : goal.returns-then-redo1_row
returns-then-redo1_row c = (search (rules, onward_stop), search rules, search rules, search rules, search (rules, kept_up))

pub loop-y-preserved : goal.loop-y-preserved
loop-y-preserved c = (search rules, search rules, search (rules, onward_go), search rules, search (rules, kept_up), search (rules, kept_size))

pub returns : goal.returns
returns c = (search (rules, onward-end), search rules, search rules, search rules, search (rules, kept_all))
