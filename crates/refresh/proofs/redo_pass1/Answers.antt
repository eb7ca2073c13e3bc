-- Rows to z1 do not end pass 1, so redoing them first changes nothing of what is redone.
use Rattle.field.proofs.Passed.{sound_reached}
use native.Mathlib.Omega.{arith}
use Rattle.refresh.proofs.Entries.{onward_all}
use borrow.Author.Rules.{rules}
use Rattle.refresh.proofs.redo_pass1.Goals as goal

pub overflow_add-z1 : goal.overflow_add-z1
overflow_add-z1 c = let u = sound_reached _ c.requires.0 in omega (arith, u.celled.short)

pub returns : goal.returns
returns c = (search (rules, onward_all), search rules, search rules, search rules, search rules)
