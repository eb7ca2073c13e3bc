-- The answers that the check does not find alone.
use mathlib.Core.Path.{◌∙◌}
use native.Mathlib.Omega.{arith}
use Rattle.merge.proofs.ToldLaws.{all_start, all_next, all_falls, all_done}
use Rattle.merge.proofs.told.merge_all.Goals as goal

pub loop-round-init : goal.loop-round-init
loop-round-init c = all_start _ _ _ _ _ _ c.first_half-half.ensures c.requires.1 c.requires.2 c.requires.3

pub merge_round-noted-requires : goal.merge_round-noted-requires
merge_round-noted-requires c = record {
  m_in_bounds = (omega (arith, c.loop-round.invariant.size, c.requires.0), c.loop-round.invariant.pool, c.loop-round.invariant.laid);
  joined = (c.loop-round.invariant.rounds.joined, c.loop-round.invariant.few);
}

pub shape_of-ws-then-round-eq0 : goal.shape_of-ws-then-round-eq0
shape_of-ws-then-round-eq0 c = c.merge_round-noted.auto.ws ∙ c.loop-round.invariant.size

pub returns-then-round-eq0 : goal.returns-then-round-eq0
returns-then-round-eq0 c = all_done _ _ _ _ _ _ _ c.loop-round.invariant _ _ c.merge_round-noted.ensures c.merge_round-noted.auto.ws c.if-round-eq0.true

pub loop-round-smaller : goal.loop-round-smaller
loop-round-smaller c = all_falls _ _ _ _ _ _ _ c.loop-round.invariant _ _ c.merge_round-noted.ensures c.merge_round-noted.auto.ws c.if-round-eq0.false

pub loop-round-preserved : goal.loop-round-preserved
loop-round-preserved c = all_next _ _ _ _ _ _ _ c.loop-round.invariant _ _ c.merge_round-noted.ensures c.merge_round-noted.auto.ws c.if-round-eq0.false
