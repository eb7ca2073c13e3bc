-- `lowered` is the rule's least: a value of at most 2 is the least at once.
use native.Mathlib.Omega.{arith}
use Rattle.distance.proofs.Sides.{least_low}
use Rattle.distance.proofs.pass.lowered.Goals as goal

pub bounds-raw-p : goal.bounds-raw-p
bounds-raw-p c = omega (arith, c.requires.1.span, c.requires.2.size)

pub returns-then-own-le-SETTLED : goal.returns-then-own-le-SETTLED
returns-then-own-le-SETTLED c = least_low _ _ _ _ _ _ _ (omega (arith, c.requires.1.span, c.requires.2.size)) c.if-own-le-SETTLED.true
