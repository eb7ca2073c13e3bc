-- By cases on what is due.
use Prim.Native.Nat.{◌<◌}
use Rattle.stored.proofs.IdCalls.{stretch_more, stretch_same}
use borrow.Author.Rules.{rules}
use Rattle.stored.proofs.id.stretch_after.Goals as goal

pub overflow_add-result : goal.overflow_add-result
overflow_add-result c = let h : c.args.p < 4294967295 = c.requires (search rules) in search rules

pub returns-then-t-eq-STRETCH : goal.returns-then-t-eq-STRETCH
returns-then-t-eq-STRETCH c = search (rules, stretch_more)

pub returns-else-t-eq-STRETCH : goal.returns-else-t-eq-STRETCH
returns-else-t-eq-STRETCH c = search (rules, stretch_same)
