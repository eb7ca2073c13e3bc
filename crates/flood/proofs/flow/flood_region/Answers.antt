-- The answers that the check does not find alone.
use mathlib.Core.Path.{◌≡◌, ◌∙◌}
use Prim.Native.Nat.{◌+◌, ◌<◌, ◌≤◌}
use native.Mathlib.Omega.{arith}
use lib.ListN.{length, get_or, length-set}
use Rattle.rules.specs.Refusals.{most_spans}
use Rattle.net.specs.Table.{net_at}
use Rattle.net.proofs.Tables.{lent_same, net_few}
use Rattle.flood.specs.Stack.{Kept}
use Rattle.flood.proofs.Pushes.{placed_kept, lent_stack_in, net_kept, kept_then}
use Rattle.flood.proofs.Visits.{good-held}
use Rattle.flood.proofs.Floods.{begun, start_kept, start_flooding, running_done, running_falls, flooded_past, flooded_is}
use Rattle.flood.proofs.Stories.{telling_start, telling_done, telling_on, told_is}
use Rattle.flood.proofs.flow.flood_region.Goals as goal

pub bounds-area-s : goal.bounds-area-s
bounds-area-s c = let from_in : c.args.from.0 < length c.args.area.now = omega (arith, c.requires.begins.0.within, c.requires.lent.1.idents) in
    from_in

pub offset_bounds-ids-s : goal.offset_bounds-ids-s
offset_bounds-ids-s c = let from_in : c.args.from.0 < length c.args.area.now = omega (arith, c.requires.begins.0.within, c.requires.lent.1.idents) in
    let few : length c.args.area.now ≤ most_spans = net_few _ _ _ c.requires.lent.0.closed in
    omega (arith, from_in, few)

pub bounds-ids-s : goal.bounds-ids-s
bounds-ids-s c = c.requires.begins.0.within

pub offset_bounds-ws-s : goal.offset_bounds-ws-s
offset_bounds-ws-s c = let from_in : c.args.from.0 < length c.args.area.now = omega (arith, c.requires.begins.0.within, c.requires.lent.1.idents) in
    let few : length c.args.area.now ≤ most_spans = net_few _ _ _ c.requires.lent.0.closed in
    omega (arith, from_in, few)

pub bounds-ws-s : goal.bounds-ws-s
bounds-ws-s c = let from_in : c.args.from.0 < length c.args.area.now = omega (arith, c.requires.begins.0.within, c.requires.lent.1.idents) in
    let room : c.args.at.stack + length c.args.area.now ≤ length c.args.ws.now = lent_stack_in c.requires.lent.1 c.requires.lent.0 in
    omega (arith, from_in, room, c.requires.lent.1.low)

pub overflow_cast-ws : goal.overflow_cast-ws
overflow_cast-ws c = let from_in : c.args.from.0 < length c.args.area.now = omega (arith, c.requires.begins.0.within, c.requires.lent.1.idents) in
    let few : length c.args.area.now ≤ most_spans = net_few _ _ _ c.requires.lent.0.closed in
    omega (arith, from_in, few)

pub offset_bounds-ws-stack : goal.offset_bounds-ws-stack
offset_bounds-ws-stack c = omega (arith, c.requires.lent.0.place, c.requires.lent.1.apart)

pub bounds-ws-stack : goal.bounds-ws-stack
bounds-ws-stack c = let from_in : c.args.from.0 < length c.args.area.now = omega (arith, c.requires.begins.0.within, c.requires.lent.1.idents) in
    let room : c.args.at.stack + length c.args.area.now ≤ length c.args.ws.now = lent_stack_in c.requires.lent.1 c.requires.lent.0 in
    simp length-set (omega (arith, from_in, room))

pub loop-height-init : goal.loop-height-init
loop-height-init c = let room : c.args.at.stack + length c.args.area.now ≤ length c.args.ws.now = lent_stack_in c.requires.lent.1 c.requires.lent.0 in
    let kept : Kept (length c.args.area.now) c.args.at.stack c.args.ws.now (begun c.args.ws.now c.args.at.stack c.args.from.0) = start_kept _ _ _ _ _ _ c.requires.lent.1.idents c.requires.lent.1.low (room) c.requires.begins.0 in
    let net : net_at c.args.at.table c.args.area.now (begun c.args.ws.now c.args.at.stack c.args.from.0) ≡ net_at c.args.at.table c.args.area.now c.args.ws.now = net_kept _ c.requires.lent.1 c.requires.lent.0.room (kept) in
    telling_start _ _ _ _ _ _ _ _ (lent_same _ _ _ _ _ kept.size net c.requires.lent.0) (placed_kept _ c.requires.lent.1 (simp length-set))
    (start_flooding _ _ _ _ _ _ c.requires.lent.1.idents c.requires.lent.1.low room c.requires.begins.0 c.requires.begins.1)

pub visit-v-requires : goal.visit-v-requires
visit-v-requires c = let byte : get_or c.args.area.now c.args.from.0 0 < 256 = omega (arith, c.type_inv.area c.args.from.0) in
    record {
      lent = (c.loop-height.invariant.running.lent, c.loop-height.invariant.running.placed);
      flooding = (c.loop-height.invariant.running.flooding, c.loop-height-test.true);
      id_nonzero = (c.requires.begins.0.some, byte);
    }

pub loop-height-smaller : goal.loop-height-smaller
loop-height-smaller c = let byte : get_or c.args.area.now c.args.from.0 0 < 256 = omega (arith, c.type_inv.area c.args.from.0) in
    running_falls _ _ _ _ _ _ _ _ _ _ c.loop-height.invariant.running c.requires.begins.0.some byte c.loop-height-test.true _ _ _ c.visit-v.ensures.height_after

pub loop-height-preserved : goal.loop-height-preserved
loop-height-preserved c = let byte : get_or c.args.area.now c.args.from.0 0 < 256 = omega (arith, c.type_inv.area c.args.from.0) in
    telling_on _ _ _ _ _ _ _ _ _ _ _ _ c.loop-height.invariant c.requires.begins.0.some byte c.loop-height-test.true _ _ _ c.visit-v.ensures.height_after
    c.visit-v.auto.ids c.visit-v.ensures.fact.0 c.visit-v.ensures.fact.1 _ c.visit-v.ensures.story_value

pub shape_of-ids : goal.shape_of-ids
shape_of-ids c = c.loop-height.invariant.running.size ∙ simp length-set

pub shape_of-ws : goal.shape_of-ws
shape_of-ws c = c.loop-height.invariant.running.kept.size ∙ simp length-set

pub returns : goal.returns
returns c = let room : c.args.at.stack + length c.args.area.now ≤ length c.args.ws.now = lent_stack_in c.requires.lent.1 c.requires.lent.0 in
    let kept : Kept (length c.args.area.now) c.args.at.stack c.args.ws.now (begun c.args.ws.now c.args.at.stack c.args.from.0) = start_kept _ _ _ _ _ _ c.requires.lent.1.idents c.requires.lent.1.low (room) c.requires.begins.0 in
    let net : net_at c.args.at.table c.args.area.now (begun c.args.ws.now c.args.at.stack c.args.from.0) ≡ net_at c.args.at.table c.args.area.now c.args.ws.now = net_kept _ c.requires.lent.1 c.requires.lent.0.room (kept) in
    let z : c.loop-height.height.top ≡ 0 = omega (arith, c.loop-height-test.false) in
    record {
      count_after = flooded_is _ _ c.args.at _ _ _ _ _ _ _ c.requires.lent.1.idents c.requires.lent.1.low room c.requires.begins.0 c.saturating_sub.ensures net (running_done _ _ _ _ _ _ _ _ _ _ c.loop-height.invariant.running z);
      fact = (
        flooded_past _ _ _ _ c.requires.lent.1.low (kept_then kept c.loop-height.invariant.running.kept) c.requires.begins.1 (rw z at c.loop-height.invariant.running.flooding.blank),
        omega (arith, (good-held _ _ _ _ _ _ c.loop-height.invariant.running.flooding.good).0),
      );
      story_value = told_is _ _ c.args.at _ _ _ _ _ _ _ _ c.requires.lent.1.idents c.requires.lent.1.low room c.requires.begins.0 c.saturating_sub.ensures net (telling_done _ _ _ _ _ _ _ _ _ _ _ _ c.loop-height.invariant z);
    }
