-- The answers that the check does not find alone.
use borrow.Author.Rules.{rules}
use native.Mathlib.Omega.{arith}
use Rattle.space.proofs.Laws.{copied_none, copied_size, copied_next, copied_all}
use Rattle.space.proofs.copy.Goals as goal

pub loop-i-init : goal.loop-i-init
loop-i-init c = search (rules, copied_none)

pub bounds-from-i : goal.bounds-from-i
bounds-from-i c = search (rules, copied_size)

pub loop-i-preserved : goal.loop-i-preserved
loop-i-preserved c = search (rules, copied_next)

pub returns : goal.returns
returns c = copied_all _ _ _ c.loop-i.invariant (omega arith)
