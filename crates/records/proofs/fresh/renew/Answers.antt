-- The answers that the check does not find alone.
use mathlib.Core.Path.{sym, ◌∙◌}
use Rattle.records.specs.Fresh.{Renewed}
use Rattle.records.proofs.CountLaws.{slot-first, slot_room}
use Rattle.records.proofs.FreshLaws.{renewed_start, renewed_here, renewed_then, renewed_end, lower_next}
use native.Mathlib.Omega.{arith}
use Rattle.records.proofs.fresh.renew.Goals as goal

pub loop-i-init : goal.loop-i-init
loop-i-init c = let counted : Renewed c.args.ids.now c.args.m 0 c.args.ws.now c.tally.new.ws = renewed_start _ _ _ _ c.requires c.tally.ensures in
    (renewed_here _ _ _ _ _ counted, sym (slot-first _))

pub renew_one-lower-requires : goal.renew_one-lower-requires
renew_one-lower-requires c = record {
  renewed = (renewed_here _ _ _ _ _ c.loop-i.invariant.0, c.loop-i-test.true, c.loop-i.invariant.1);
  m_le_border = (c.requires.few, c.requires.spans, omega (arith, c.loop-i.invariant.0.size, c.tally.ensures.size, c.requires.room));
}

pub overflow_add-lower : goal.overflow_add-lower
overflow_add-lower c = omega (arith, slot_room c.args.ids.now c.loop-i.i, c.loop-i.invariant.1, c.renew_one-lower.ensures.1, c.requires.spans)

pub loop-i-preserved : goal.loop-i-preserved
loop-i-preserved c = (renewed_then _ _ _ _ _ _ _ c.loop-i.invariant.0 c.renew_one-lower.ensures.0, lower_next _ _ _ _ c.loop-i.invariant.1 c.renew_one-lower.ensures.1)

pub shape_of-ws : goal.shape_of-ws
shape_of-ws c = c.loop-i.invariant.0.size ∙ c.tally.auto.ws

pub returns : goal.returns
returns c = let counted : Renewed c.args.ids.now c.args.m 0 c.args.ws.now c.tally.new.ws = renewed_start _ _ _ _ c.requires c.tally.ensures in
    renewed_then _ _ _ _ _ _ _ counted (renewed_end _ _ _ _ _ c.loop-i.invariant.0 c.loop-i-test.false)
