-- The answers that the check does not find alone.
use native.Mathlib.Omega.{arith}
use Rattle.flood.proofs.Pushes.{pushing_start, pushing_next, pushing_done}
use Rattle.flood.proofs.flow.push_all.Goals as goal

pub loop-d-init : goal.loop-d-init
loop-d-init c = pushing_start _ _ _ _ _ _ _ _ _ c.requires.at_span.0 c.requires.at_span.1 c.requires.id_nonzero.2

pub push_one-h-requires : goal.push_one-h-requires
push_one-h-requires c = record {
  at_span = (c.loop-d.invariant.span, c.loop-d.invariant.placed);
  d_bound = (omega (arith, c.loop-d-test.true), c.requires.id_nonzero.0, c.requires.id_nonzero.1, c.loop-d.invariant.moved.high);
}

pub loop-d-preserved : goal.loop-d-preserved
loop-d-preserved c = pushing_next _ _ _ _ _ _ _ _ _ _ _ _ _ c.loop-d.invariant _ _ _ (omega (arith, c.loop-d-test.true)) c.push_one-h.auto.ids c.push_one-h.ensures.result_after c.push_one-h.ensures.fact

pub shape_of-ids : goal.shape_of-ids
shape_of-ids c = c.loop-d.invariant.size

pub shape_of-ws : goal.shape_of-ws
shape_of-ws c = c.loop-d.invariant.moved.kept.size

pub returns : goal.returns
returns c = record {
  result_after = pushing_done _ _ _ _ _ _ _ _ _ _ _ _ _ c.loop-d.invariant c.loop-d-test.false;
  fact = c.loop-d.invariant.moved;
}
