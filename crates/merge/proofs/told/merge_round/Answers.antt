-- The answers that the check does not find alone.
use native.Mathlib.Omega.{arith}
use Rattle.merge.proofs.ToldLaws.{round-start, round-joined, round_next, round_done}
use Rattle.merge.proofs.told.merge_round.Goals as goal

pub loop-i-init : goal.loop-i-init
loop-i-init c = round-start _ _ _ _ _ _ c.requires.m_in_bounds.1 c.requires.m_in_bounds.2 c.requires.joined.1

pub merge_one_noted-noted-requires : goal.merge_one_noted-noted-requires
merge_one_noted-noted-requires c = record {
  m_in_bounds = (omega (arith, c.loop-i.auto.ws, c.requires.m_in_bounds.0), c.loop-i.invariant.pool, c.loop-i.invariant.laid);
  joined = (round-joined _ _ _ _ _ _ _ _ _ c.loop-i.invariant c.requires.joined.0, c.loop-i-test.true, omega (arith, c.loop-i.invariant.less, c.loop-i-test.true, c.loop-i.invariant.pool.held.few), c.loop-i.invariant.few);
}

pub loop-i-preserved : goal.loop-i-preserved
loop-i-preserved c = round_next _ _ _ _ _ _ _ _ _ c.loop-i.invariant c.loop-i.auto.ws _ _ c.merge_one_noted-noted.ensures

pub returns : goal.returns
returns c = round_done _ _ _ _ _ _ _ _ _ c.loop-i.invariant (omega arith) (omega arith)
