-- The answers that the check does not find alone.
use native.Mathlib.Omega.{arith}
use Rattle.records.proofs.BuildLaws.{entered_start, entered_room, entered_stand, entered_knowing, entered_next, entered_end}
use Rattle.records.proofs.build.add_spans.Goals as goal

pub loop-j-init : goal.loop-j-init
loop-j-init c = entered_start _ _ _ _ _ _ _ c.requires.entering

pub overflow_cast-j : goal.overflow_cast-j
overflow_cast-j c = omega (arith, c.requires.entering.few, c.loop-j-test.true)

pub at-requires : goal.at-requires
at-requires c = entered_room _ _ _ _ _ _ _ c.requires.entering _ _ _ c.loop-j.invariant c.loop-j-test.true

pub add_span-end-requires : goal.add_span-end-requires
add_span-end-requires c = record {
  standing = entered_stand _ _ _ _ _ _ _ c.requires.entering _ _ _ c.loop-j.invariant c.loop-j-test.true _ c.at.ensures;
  knowing_from = entered_knowing _ _ _ _ _ _ _ c.requires.entering _ _ _ c.loop-j.invariant c.loop-j-test.true _ c.requires.knowing_from;
}

pub loop-j-preserved : goal.loop-j-preserved
loop-j-preserved c = entered_next _ _ _ _ _ _ _ c.requires.entering _ _ _ c.loop-j.invariant c.loop-j-test.true _ c.at.ensures _ _ c.add_span-end.ensures

pub shape_of-ws : goal.shape_of-ws
shape_of-ws c = c.loop-j.invariant.size

pub returns : goal.returns
returns c = entered_end _ _ _ _ _ _ _ c.requires.entering _ _ _ c.loop-j.invariant c.loop-j-test.false
