-- The answers that the check does not find alone.
use Rattle.filter.proofs.GroupLaws.{none_waits}
use Rattle.space.proofs.Laws.{frame_none}
use Rattle.filter.proofs.GroupLaws.{turn-start, turn_go, turn_falls, turn_done, turn_room, turn_most, turn_frame, found_kept}
use borrow.Author.Rules.{rules}
use native.Mathlib.Omega.{arith}
use Rattle.filter.proofs.gather.gather.Goals as goal

pub loop-top-init : goal.loop-top-init
loop-top-init c = (search rules, search rules, search rules, search turn-start, search frame_none)

pub pop-i-requires : goal.pop-i-requires
pop-i-requires c = record {
  waiting = (search rules, search rules);
  top_nonzero = (search rules, search turn_room);
}

pub overflow_add-f : goal.overflow_add-f
overflow_add-f c = omega (arith, turn_room _ _ _ _ _ c.loop-top.invariant.3 c.loop-top-test.true)

pub loop-top-smaller : goal.loop-top-smaller
loop-top-smaller c = search turn_falls

pub loop-top-preserved : goal.loop-top-preserved
loop-top-preserved c = (search rules, search rules, search found_kept, search turn_go, search turn_frame)

pub returns : goal.returns
returns c = record {
  result_after = search turn_done;
  upper_bound = (search turn_most, search none_waits, search rules);
  frame = search rules;
}
