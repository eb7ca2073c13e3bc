-- The loop's invariant: the halving from here on gives what the whole gives, with fuel enough (Halves).
-- Each look leaves fewer stretches.
use Prim.Native.Nat.{◌-◌}
use Rattle.stored.proofs.Halving.{Halves}
use Rattle.stored.proofs.id.choose.Given as goal

abbrev pub invariant-loop-lo : goal.invariant-loop-lo
invariant-loop-lo l = Halves l.file l.span l.lo l.hi

abbrev pub decreases-loop-lo : goal.decreases-loop-lo
decreases-loop-lo l = l.hi - l.lo
