-- The answers that the check does not find alone.
use native.Mathlib.Omega.{arith}
use Rattle.field.proofs.Passed.{sound_reached}
use Rattle.refresh.proofs.Turns.{blur_go, blur-first, blur-last}
use borrow.Author.Rules.{rules}
use Rattle.refresh.proofs.redo.blur_rows.Goals as goal

pub overflow_add-y-end : goal.overflow_add-y-end
overflow_add-y-end c = let u = sound_reached _ c.requires.0 in omega (arith, u.celled.short)

pub loop-y-init : goal.loop-y-init
loop-y-init c = (search rules, search rules, search (rules, blur-first), search rules)

pub blur_row-requires : goal.blur_row-requires
blur_row-requires c = (search (rules, sound_reached), search rules, search rules, search rules)

pub loop-y-preserved : goal.loop-y-preserved
loop-y-preserved c = (search rules, search rules, search (rules, blur_go), search rules)

pub returns : goal.returns
returns c = search (rules, blur-last)
