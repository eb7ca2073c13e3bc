-- The answers that the check does not find alone.
use mathlib.Core.Path.{◌≡◌, ◌∙◌, refl}
use Prim.Native.Nat.{◌≤◌, ◌<◌}
use native.Mathlib.Omega.{arith}
use lib.ListN.{length, get_or, length-set}
use Rattle.plain.proofs.Joining.{few, held_kept}
use Rattle.plain.proofs.Filled.{start_filling, start_past, running_start, top_in, running_done, span_in_lem, rest_held, running_falls, running_on, filled_is}
use Rattle.plain.proofs.fill.fill_room.Goals as goal

pub bounds-area-s : goal.bounds-area-s
bounds-area-s c = c.requires.1.span

pub offset_bounds-ids-s : goal.offset_bounds-ids-s
offset_bounds-ids-s c = omega (arith, c.requires.1.span, few _ _ _ c.requires.0)

pub bounds-ids-s : goal.bounds-ids-s
bounds-ids-s c = omega (arith, c.requires.1.span, c.requires.1.size)

pub overflow_cast-ws : goal.overflow_cast-ws
overflow_cast-ws c = omega (arith, c.requires.1.span, few _ _ _ c.requires.0)

pub bounds-ws-0 : goal.bounds-ws-0
bounds-ws-0 c = let room : length c.args.area.now ≤ length c.args.ws.now = omega (arith, c.requires.0.past, c.requires.0.room) in
    omega (arith, c.requires.1.span, room)

pub loop-top-init : goal.loop-top-init
loop-top-init c = let room : length c.args.area.now ≤ length c.args.ws.now = omega (arith, c.requires.0.past, c.requires.0.room) in
    running_start _ _ _ _ _ _ (held_kept _ _ _ _ c.requires.0 (simp length-set) (start_past _ c.args.ws.now _ _ _ c.requires.1 c.requires.2 room))
    (start_filling _ c.args.ws.now _ _ _ c.requires.1 c.requires.2 room)

pub offset_bounds-ws-top : goal.offset_bounds-ws-top
offset_bounds-ws-top c = omega (arith, top_in _ _ _ _ _ _ _ _ _ c.loop-top.invariant, few _ _ _ c.requires.0)

pub bounds-ws-top : goal.bounds-ws-top
bounds-ws-top c = omega (arith, c.loop-top-test.true, top_in _ _ _ _ _ _ _ _ _ c.loop-top.invariant, c.loop-top.invariant.held.past, c.loop-top.invariant.held.room)

pub join_all-top-requires : goal.join_all-top-requires
join_all-top-requires c = let byte : get_or c.args.area.now c.args.from.0 0 < 256 = omega (arith, c.type_inv.area c.args.from.0) in
    record {
      held = (c.loop-top.invariant.held, span_in_lem _ _ _ _ _ _ _ _ _ c.loop-top.invariant c.loop-top-test.true _ refl, byte);
      filling = (rest_held _ _ _ _ _ _ _ _ _ c.loop-top.invariant c.loop-top-test.true _ refl, c.requires.2);
    }

pub loop-top-smaller : goal.loop-top-smaller
loop-top-smaller c = let byte : get_or c.args.area.now c.args.from.0 0 < 256 = omega (arith, c.type_inv.area c.args.from.0) in
    running_falls _ _ _ _ _ _ _ _ _ c.loop-top.invariant c.loop-top-test.true _ refl byte c.requires.2 _ _ _ c.join_all-top.ensures.result_after

pub loop-top-preserved : goal.loop-top-preserved
loop-top-preserved c = let byte : get_or c.args.area.now c.args.from.0 0 < 256 = omega (arith, c.type_inv.area c.args.from.0) in
    running_on _ _ _ _ _ _ _ _ _ c.loop-top.invariant c.loop-top-test.true _ refl byte c.requires.2 _ _ _ c.join_all-top.ensures.result_after
    c.join_all-top.auto.ids c.join_all-top.auto.ws c.join_all-top.ensures.ws_unchanged

pub shape_of-ids : goal.shape_of-ids
shape_of-ids c = c.loop-top.invariant.size ∙ simp length-set

pub shape_of-ws : goal.shape_of-ws
shape_of-ws c = c.loop-top.invariant.long ∙ simp length-set

pub returns : goal.returns
returns c = let room : length c.args.area.now ≤ length c.args.ws.now = omega (arith, c.requires.0.past, c.requires.0.room) in
    let z : c.loop-top.top ≡ 0 = omega (arith, c.loop-top-test.false) in
    record {
      ids_after = filled_is _ _ _ _ _ _ c.requires.0 c.requires.1 c.requires.2 _ (running_done _ _ _ _ _ _ _ _ _ c.loop-top.invariant z);
      ws_unchanged = c.loop-top.invariant.past ∙ start_past _ _ _ _ _ c.requires.1 c.requires.2 room;
    }
