-- The answers that the check does not find alone.
use native.Mathlib.Omega.{arith}
use Rattle.pool.proofs.ListLaws.{swapped_more, swap-hit, swap-miss}
use Rattle.pool.proofs.lists.swap.Goals as goal
use Rattle.pool.proofs.lists.swap.Goals.{then-x-old, else-x-old}

pub loop-x-preserved : goal.loop-x-preserved
loop-x-preserved c =
    elim c.if-x-old.branch [
      | then-x-old w ↦ swapped_more _ _ _ _ _ (omega arith) c.loop-x.auto.l c.loop-x.invariant (swap-hit _ _ _ _ w.if-x-old.true w.x-is)
      | else-x-old w ↦ swapped_more _ _ _ _ _ (omega arith) c.loop-x.auto.l c.loop-x.invariant (swap-miss _ _ _ _ w.if-x-old.false w.x-is)
    ]
