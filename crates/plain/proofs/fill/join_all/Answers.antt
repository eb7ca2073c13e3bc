-- The answers that the check does not find alone.
use native.Mathlib.Omega.{arith}
use Rattle.plain.proofs.Joining.{joining_start, joining_next, joining_done}
use Rattle.plain.proofs.fill.join_all.Goals as goal

pub loop-d-init : goal.loop-d-init
loop-d-init c = joining_start _ _ _ _ _ _ _ _ c.requires.held.0 c.requires.filling.0

pub join_one-h-requires : goal.join_one-h-requires
join_one-h-requires c = record {
  held = (c.loop-d.invariant.held, c.requires.held.1, omega (arith, c.loop-d-test.true), c.requires.held.2);
  filling = (c.loop-d.invariant.filling, c.requires.filling.1);
}

pub loop-d-preserved : goal.loop-d-preserved
loop-d-preserved c = joining_next _ _ _ _ _ _ _ _ _ _ _ _ c.loop-d.invariant c.requires.held.2 c.requires.filling.1 _ _ _ (omega (arith, c.loop-d-test.true))
    c.join_one-h.auto.ids c.join_one-h.auto.ws c.join_one-h.ensures.result_after c.join_one-h.ensures.ws_unchanged

pub shape_of-ids : goal.shape_of-ids
shape_of-ids c = c.loop-d.invariant.size

pub shape_of-ws : goal.shape_of-ws
shape_of-ws c = c.loop-d.invariant.long

pub returns : goal.returns
returns c = record {
  result_after = joining_done _ _ _ _ _ _ _ _ _ _ _ _ c.loop-d.invariant c.loop-d-test.false;
  ws_unchanged = c.loop-d.invariant.past;
}
