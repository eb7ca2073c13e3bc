-- A run that is joined is below the greatest length, so one more fits 16 bits.
use Prim.Native.Nat.{◌<◌}
use mathlib.Core.Path.{refl}
use Rattle.stored.proofs.Calls.{grown-small, grown_more, grown-one, turned_same, turned_next}
use borrow.Author.Rules.{rules}
use Rattle.stored.proofs.old.run_after.Goals as goal
use Rattle.stored.proofs.old.run_after.Goals.{then-joins, else-joins}

pub overflow_add-result : goal.overflow_add-result
overflow_add-result c = let h : c.args.run.long < 65535 = search (rules, grown-small) in search rules

pub returns : goal.returns
returns c = elim c.if-joins.branch [
  | then-joins w ↦ rw w.result-is (refl, search (rules, grown_more), search (rules, turned_same))
  | else-joins w ↦ rw w.result-is (refl, search (rules, grown-one), search (rules, turned_next))
]
