-- The answers that the check does not find alone.
use native.Mathlib.Omega.{arith}
use mathlib.Core.Path.{◌∙◌}
use Rattle.pool.proofs.ListLaws.{keep-stays, keep_moves, squeeze_done}
use borrow.Author.Rules.{rules}
use Rattle.pool.proofs.lists.squeeze.Goals as goal
use Rattle.pool.proofs.lists.squeeze.Goals.{then-not-again, else-not-again}

pub loop-i-preserved : goal.loop-i-preserved
loop-i-preserved c =
    elim c.if-not-again.branch [
      | then-not-again w ↦ rw (w.l-is, w.w-is) (omega arith, keep_moves _ _ (omega arith) _ _ c.again.ensures w.if-not-again.true c.loop-i.invariant.0 ∙ c.loop-i.invariant.1)
      | else-not-again w ↦ rw (w.l-is, w.w-is) (omega arith, keep-stays _ _ (omega arith) _ _ c.again.ensures w.if-not-again.false ∙ c.loop-i.invariant.1)
    ]

pub returns : goal.returns
returns c = (search (rules, squeeze_done), search rules)
