-- The answers that the check does not find alone.
use Rattle.sizes.proofs.WalkLaws.{seen_none, seen_next, seen_all}
use native.Mathlib.Omega.{arith}
use Rattle.sizes.proofs.walk.walk_cell.Goals as goal

pub loop-j-init : goal.loop-j-init
loop-j-init c = seen_none _ _ _ _ _ _ _ _ c.requires.count_le_first.0

pub note-seen-requires : goal.note-seen-requires
note-seen-requires c = record {
  s_in_bounds = (omega (arith, c.loop-j-test.true, c.requires.spans_in_bounds.0), c.requires.spans_in_bounds.1, omega (arith, c.loop-j-test.true, c.requires.spans_in_bounds.0, c.requires.spans_in_bounds.2));
  count_le_s = (c.loop-j.invariant.low, c.requires.count_le_first.1, c.requires.count_le_first.2);
}

pub loop-j-preserved : goal.loop-j-preserved
loop-j-preserved c = seen_next _ _ _ _ _ _ _ _ _ _ c.loop-j.invariant c.loop-j-test.true _ c.note-seen.ensures

pub returns : goal.returns
returns c = seen_all _ _ _ _ _ _ _ _ _ _ c.loop-j.invariant c.loop-j-test.false
