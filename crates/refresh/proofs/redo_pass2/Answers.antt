-- Rows past the first do not end pass 2, so redoing them first changes nothing of what is redone.
use Rattle.field.proofs.Passed.{sound_reached}
use native.Mathlib.Omega.{arith}
use Rattle.refresh.proofs.Entries.{backward_all}
use borrow.Author.Rules.{rules}
use Rattle.refresh.proofs.redo_pass2.Goals as goal

pub overflow_add-last : goal.overflow_add-last
overflow_add-last c = let u = sound_reached _ c.requires.0 in omega (arith, u.celled.short)

pub overflow_add-first : goal.overflow_add-first
overflow_add-first c = let u = sound_reached _ c.requires.0 in omega (arith, u.celled.short)

pub returns : goal.returns
returns c = (search (rules, backward_all), search rules, search rules, search rules)
