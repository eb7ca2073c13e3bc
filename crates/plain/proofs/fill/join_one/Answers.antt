-- Under what has been tested by each return, the room is the rule's (Joining); a neighbour that is there is a span, and one without an id
-- has its place on the stack.
use native.Mathlib.Omega.{arith}
use mathlib.Core.Path.{refl}
use lib.ListN.{length, length-set}
use Prim.Native.Nat.{◌<◌}
use Rattle.plain.proofs.Joining.{few, filling_size, inside, skip_none, skip_area, skip_id, top_in, join_room, join_past}
use Rattle.plain.proofs.fill.join_one.Goals as goal

pub neighbour-t-requires : goal.neighbour-t-requires
neighbour-t-requires c = (c.requires.held.0.place, omega (arith, c.requires.held.1, few _ _ _ c.requires.held.0), c.requires.held.2, omega (arith, c.requires.held.0.room, c.requires.held.1, c.requires.held.2))

pub returns-then-t-eq-NO_SPAN : goal.returns-then-t-eq-NO_SPAN
returns-then-t-eq-NO_SPAN c = record {
  result_after = skip_none _ _ _ _ _ _ _ _ _ _ c.requires.held.0 c.requires.held.1 c.requires.held.2 c.neighbour-t.ensures c.requires.held.3 c.if-t-eq-NO_SPAN.true;
  ws_unchanged = refl;
}

pub bounds-area-t : goal.bounds-area-t
bounds-area-t c = let there : c.neighbour-t.result.0 < length c.args.area.now = inside _ _ c.args.ids.now _ c.args.room.area c.args.room.id _ _ c.args.top _ c.requires.held.0 c.requires.held.1 c.requires.held.2 c.neighbour-t.ensures c.if-t-eq-NO_SPAN.false in
    there

pub returns-then-area-t : goal.returns-then-area-t
returns-then-area-t c = let there : c.neighbour-t.result.0 < length c.args.area.now = inside _ _ c.args.ids.now _ c.args.room.area c.args.room.id _ _ c.args.top _ c.requires.held.0 c.requires.held.1 c.requires.held.2 c.neighbour-t.ensures c.if-t-eq-NO_SPAN.false in
    record {
      result_after = skip_area _ _ _ _ _ _ _ _ _ _ c.requires.held.0 c.requires.held.1 c.requires.held.2 c.neighbour-t.ensures there c.if-area-t.true;
      ws_unchanged = refl;
    }

pub offset_bounds-ids-t : goal.offset_bounds-ids-t
offset_bounds-ids-t c = let there : c.neighbour-t.result.0 < length c.args.area.now = inside _ _ c.args.ids.now _ c.args.room.area c.args.room.id _ _ c.args.top _ c.requires.held.0 c.requires.held.1 c.requires.held.2 c.neighbour-t.ensures c.if-t-eq-NO_SPAN.false in
    omega (arith, there, few _ _ _ c.requires.held.0)

pub bounds-ids-t : goal.bounds-ids-t
bounds-ids-t c = let there : c.neighbour-t.result.0 < length c.args.area.now = inside _ _ c.args.ids.now _ c.args.room.area c.args.room.id _ _ c.args.top _ c.requires.held.0 c.requires.held.1 c.requires.held.2 c.neighbour-t.ensures c.if-t-eq-NO_SPAN.false in
    omega (arith, there, (filling_size _ _ _ _ c.requires.filling.0).0)

pub returns-then-ids-t-ne0 : goal.returns-then-ids-t-ne0
returns-then-ids-t-ne0 c = let there : c.neighbour-t.result.0 < length c.args.area.now = inside _ _ c.args.ids.now _ c.args.room.area c.args.room.id _ _ c.args.top _ c.requires.held.0 c.requires.held.1 c.requires.held.2 c.neighbour-t.ensures c.if-t-eq-NO_SPAN.false in
    record {
      result_after = skip_id _ _ _ _ _ _ _ _ _ _ c.requires.held.0 c.requires.held.1 c.requires.held.2 c.neighbour-t.ensures there c.if-area-t.false c.if-ids-t-ne0.true;
      ws_unchanged = refl;
    }

pub offset_bounds-ids-t-2 : goal.offset_bounds-ids-t-2
offset_bounds-ids-t-2 c = let there : c.neighbour-t.result.0 < length c.args.area.now = inside _ _ c.args.ids.now _ c.args.room.area c.args.room.id _ _ c.args.top _ c.requires.held.0 c.requires.held.1 c.requires.held.2 c.neighbour-t.ensures c.if-t-eq-NO_SPAN.false in
    omega (arith, there, few _ _ _ c.requires.held.0)

pub bounds-ids-t-2 : goal.bounds-ids-t-2
bounds-ids-t-2 c = let there : c.neighbour-t.result.0 < length c.args.area.now = inside _ _ c.args.ids.now _ c.args.room.area c.args.room.id _ _ c.args.top _ c.requires.held.0 c.requires.held.1 c.requires.held.2 c.neighbour-t.ensures c.if-t-eq-NO_SPAN.false in
    omega (arith, there, (filling_size _ _ _ _ c.requires.filling.0).0)

pub overflow_cast-ws : goal.overflow_cast-ws
overflow_cast-ws c = let there : c.neighbour-t.result.0 < length c.args.area.now = inside _ _ c.args.ids.now _ c.args.room.area c.args.room.id _ _ c.args.top _ c.requires.held.0 c.requires.held.1 c.requires.held.2 c.neighbour-t.ensures c.if-t-eq-NO_SPAN.false in
    omega (arith, there, few _ _ _ c.requires.held.0)

pub offset_bounds-ws-top : goal.offset_bounds-ws-top
offset_bounds-ws-top c = let there : c.neighbour-t.result.0 < length c.args.area.now = inside _ _ c.args.ids.now _ c.args.room.area c.args.room.id _ _ c.args.top _ c.requires.held.0 c.requires.held.1 c.requires.held.2 c.neighbour-t.ensures c.if-t-eq-NO_SPAN.false in
    let placed : c.args.top < length c.args.area.now = top_in _ _ _ _ _ _ _ _ _ _ c.requires.held.0 c.requires.held.1 c.requires.held.2 c.neighbour-t.ensures (there) c.if-area-t.false c.if-ids-t-ne0.false c.requires.filling.0 c.requires.filling.1 in
    omega (arith, placed, few _ _ _ c.requires.held.0)

pub bounds-ws-top : goal.bounds-ws-top
bounds-ws-top c = let there : c.neighbour-t.result.0 < length c.args.area.now = inside _ _ c.args.ids.now _ c.args.room.area c.args.room.id _ _ c.args.top _ c.requires.held.0 c.requires.held.1 c.requires.held.2 c.neighbour-t.ensures c.if-t-eq-NO_SPAN.false in
    let placed : c.args.top < length c.args.area.now = top_in _ _ _ _ _ _ _ _ _ _ c.requires.held.0 c.requires.held.1 c.requires.held.2 c.neighbour-t.ensures (there) c.if-area-t.false c.if-ids-t-ne0.false c.requires.filling.0 c.requires.filling.1 in
    omega (arith, placed, c.requires.held.0.past, c.requires.held.0.room)

pub overflow_add-result : goal.overflow_add-result
overflow_add-result c = let there : c.neighbour-t.result.0 < length c.args.area.now = inside _ _ c.args.ids.now _ c.args.room.area c.args.room.id _ _ c.args.top _ c.requires.held.0 c.requires.held.1 c.requires.held.2 c.neighbour-t.ensures c.if-t-eq-NO_SPAN.false in
    let placed : c.args.top < length c.args.area.now = top_in _ _ _ _ _ _ _ _ _ _ c.requires.held.0 c.requires.held.1 c.requires.held.2 c.neighbour-t.ensures (there) c.if-area-t.false c.if-ids-t-ne0.false c.requires.filling.0 c.requires.filling.1 in
    omega (arith, placed, few _ _ _ c.requires.held.0)

pub shape_of-ids : goal.shape_of-ids
shape_of-ids c = simp length-set

pub shape_of-ws : goal.shape_of-ws
shape_of-ws c = simp length-set

pub returns : goal.returns
returns c = let there : c.neighbour-t.result.0 < length c.args.area.now = inside _ _ c.args.ids.now _ c.args.room.area c.args.room.id _ _ c.args.top _ c.requires.held.0 c.requires.held.1 c.requires.held.2 c.neighbour-t.ensures c.if-t-eq-NO_SPAN.false in
    record {
      result_after = join_room _ _ _ _ _ _ _ _ _ _ c.requires.held.0 c.requires.held.1 c.requires.held.2 c.neighbour-t.ensures there c.if-area-t.false c.if-ids-t-ne0.false c.requires.filling.0 c.requires.filling.1;
      ws_unchanged = join_past _ _ _ _ _ _ _ _ _ _ c.requires.held.0 c.requires.held.1 c.requires.held.2 c.neighbour-t.ensures there c.if-area-t.false c.if-ids-t-ne0.false c.requires.filling.0 c.requires.filling.1;
    }
