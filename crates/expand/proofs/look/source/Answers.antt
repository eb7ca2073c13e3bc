-- The answers that the check does not find alone.
use native.Mathlib.Omega.{arith}
use borrow.Author.Rules.{rules}
use Rattle.expand.proofs.Looks.{sight_small, sight_slot}
use Rattle.expand.proofs.Tellings.{side_is, source_start, source_here, source_on, source_last}
use Rattle.expand.proofs.look.source.Goals as goal

pub loop-d-init : goal.loop-d-init
loop-d-init c = search (rules, source_start)

pub neighbour-requires : goal.neighbour-requires
neighbour-requires c = (search rules, search (rules, sight_small), omega (arith, c.loop-d-test.true), sight_slot _ _ _ _ _ c.requires _ (omega (arith, c.loop-d-test.true)))

pub returns-then-gives : goal.returns-then-gives
returns-then-gives c = source_here _ _ _ _ _ c.loop-d.invariant c.loop-d-test.true _ c.gives.ensures c.if-gives.true _ (side_is _ _ _ _ _ c.requires _ (omega (arith, c.loop-d-test.true)) _ c.neighbour.ensures)

pub loop-d-preserved : goal.loop-d-preserved
loop-d-preserved c = source_on _ _ _ _ _ c.loop-d.invariant c.loop-d-test.true _ c.gives.ensures c.if-gives.false

pub neighbour-requires-2 : goal.neighbour-requires-2
neighbour-requires-2 c = (c.requires.close, sight_small _ _ _ _ _ c.requires, omega arith, sight_slot _ _ _ _ _ c.requires 3 (omega arith))

pub returns : goal.returns
returns c = source_last _ _ _ _ _ c.loop-d.invariant c.loop-d-test.false _ (side_is _ _ _ _ _ c.requires 3 (omega arith) _ c.neighbour-2.ensures)
