-- The answers that the check does not find alone.
use native.Mathlib.Omega.{arith}
use Rattle.distance.proofs.Walks.{high_here, high_go, high_none}
use borrow.Author.Rules.{rules}
use Rattle.distance.proofs.pass.unsettled.Goals as goal

pub returns-then-raw-k-gt-SETTLED : goal.returns-then-raw-k-gt-SETTLED
returns-then-raw-k-gt-SETTLED c = omega (arith, high_here _ _ c.loop-k-test.true c.if-raw-k-gt-SETTLED.true, c.loop-k.invariant)

pub loop-k-preserved : goal.loop-k-preserved
loop-k-preserved c = search (rules, high_go)

pub returns : goal.returns
returns c = search (rules, high_none)
