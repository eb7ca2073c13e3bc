-- The answers that the check does not find alone.
use mathlib.Core.Path.{◌∙◌}
use Rattle.plain.proofs.Numbered.{numbering_start, numbering_next, numbering_done}
use Rattle.plain.proofs.fill.number_rooms.Goals as goal

pub loop-s-init : goal.loop-s-init
loop-s-init c = numbering_start _ _ _ _ c.requires.0

pub begin_room-most-requires : goal.begin_room-most-requires
begin_room-most-requires c = (c.loop-s.invariant.held, c.loop-s.invariant.size ∙ c.requires.1, c.loop-s-test.true, c.loop-s.invariant.low)

pub loop-s-preserved : goal.loop-s-preserved
loop-s-preserved c = numbering_next _ _ _ _ _ _ _ _ c.loop-s.invariant _ _ _ c.loop-s-test.true c.begin_room-most.auto.ids c.begin_room-most.auto.ws c.begin_room-most.ensures.result_after c.begin_room-most.ensures.ws_unchanged

pub shape_of-ids : goal.shape_of-ids
shape_of-ids c = c.loop-s.invariant.size

pub shape_of-ws : goal.shape_of-ws
shape_of-ws c = c.loop-s.invariant.long

pub returns : goal.returns
returns c = record {
  result_after = numbering_done _ _ _ _ _ _ _ _ c.loop-s.invariant c.loop-s-test.false;
  ws_unchanged = c.loop-s.invariant.past;
}
