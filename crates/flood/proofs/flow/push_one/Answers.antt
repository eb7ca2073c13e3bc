-- Under what has been tested by each return, the flow is the rule's (Pushes); a neighbour that is there is a span, and the stack has room
-- for it, since it had another id.
use native.Mathlib.Omega.{arith}
use lib.ListN.{length, length-set}
use Prim.Native.Nat.{◌+◌, ◌<◌}
use Rattle.rules.specs.Refusals.{most_spans}
use Rattle.net.proofs.Tables.{slot_in, leads_inside, net_few}
use Rattle.flood.proofs.Pushes.{skip_none, skip_area, skip_id, skip_shallow, push_flow, skipped, stack_in, push_fits, push_pushed}
use Rattle.flood.proofs.flow.push_one.Goals as goal
use Rattle.flood.proofs.flow.push_one.Goals.{then-area-t-via-then-area-t, then-area-t-via-else-area-t+then-ids-t-ne0, then-area-t-via-else-area-t+else-ids-t-ne0+then-dist-t}

pub returns-then-cons-d : goal.returns-then-cons-d
returns-then-cons-d c = record {
  result_after = skip_none _ _ _ _ _ _ _ _ _ _ _ c.requires.at_span.0 c.requires.d_bound.0 c.requires.d_bound.2 c.if-cons-d.true;
  fact = skipped _ _ _ _ _ _ c.requires.d_bound.3;
}

pub neighbour-t-requires : goal.neighbour-t-requires
neighbour-t-requires c = (c.requires.at_span.0.place, omega (arith, c.requires.at_span.0.span, net_few _ _ _ c.requires.at_span.0.closed), c.requires.d_bound.0, slot_in _ _ _ _ _ _ 0 c.requires.at_span.0 c.requires.d_bound.0)

pub bounds-area-t : goal.bounds-area-t
bounds-area-t c = let inside : c.neighbour-t.result.0 < length c.args.area.now = leads_inside _ _ _ _ _ _ _ c.requires.at_span.0 c.requires.d_bound.0 c.neighbour-t.ensures c.if-cons-d.false in
    inside

pub returns-then-area-t : goal.returns-then-area-t
returns-then-area-t c = let inside : c.neighbour-t.result.0 < length c.args.area.now = leads_inside _ _ _ _ _ _ _ c.requires.at_span.0 c.requires.d_bound.0 c.neighbour-t.ensures c.if-cons-d.false in
    record {
      result_after = elim c.then-area-t.branch [
        | then-area-t-via-then-area-t w ↦ skip_area _ _ _ _ _ _ _ _ _ _ _ c.requires.at_span.0 c.requires.d_bound.0 _ c.neighbour-t.ensures inside w.if-area-t.true
        | then-area-t-via-else-area-t+then-ids-t-ne0 w ↦ skip_id _ _ _ _ _ _ _ _ _ _ _ c.requires.at_span.0 c.requires.d_bound.0 _ c.neighbour-t.ensures inside w.if-area-t.false w.if-ids-t-ne0.true
        | then-area-t-via-else-area-t+else-ids-t-ne0+then-dist-t w ↦ skip_shallow _ _ _ _ _ _ _ _ _ _ _ c.requires.at_span.0 c.requires.d_bound.0 _ c.neighbour-t.ensures inside w.if-area-t.false w.if-ids-t-ne0.false w.if-dist-t.true
      ];
      fact = skipped _ _ _ _ _ _ c.requires.d_bound.3;
    }

pub offset_bounds-ids-t : goal.offset_bounds-ids-t
offset_bounds-ids-t c = let inside : c.neighbour-t.result.0 < length c.args.area.now = leads_inside _ _ _ _ _ _ _ c.requires.at_span.0 c.requires.d_bound.0 c.neighbour-t.ensures c.if-cons-d.false in
    let small : c.neighbour-t.result.0 < most_spans = omega (arith, inside, net_few _ _ _ c.requires.at_span.0.closed) in
    omega (arith, small)

pub bounds-ids-t : goal.bounds-ids-t
bounds-ids-t c = let inside : c.neighbour-t.result.0 < length c.args.area.now = leads_inside _ _ _ _ _ _ _ c.requires.at_span.0 c.requires.d_bound.0 c.neighbour-t.ensures c.if-cons-d.false in
    omega (arith, inside, c.requires.at_span.1.idents)

pub offset_bounds-dist-t : goal.offset_bounds-dist-t
offset_bounds-dist-t c = let inside : c.neighbour-t.result.0 < length c.args.area.now = leads_inside _ _ _ _ _ _ _ c.requires.at_span.0 c.requires.d_bound.0 c.neighbour-t.ensures c.if-cons-d.false in
    let small : c.neighbour-t.result.0 < most_spans = omega (arith, inside, net_few _ _ _ c.requires.at_span.0.closed) in
    omega (arith, small)

pub bounds-dist-t : goal.bounds-dist-t
bounds-dist-t c = let inside : c.neighbour-t.result.0 < length c.args.area.now = leads_inside _ _ _ _ _ _ _ c.requires.at_span.0 c.requires.d_bound.0 c.neighbour-t.ensures c.if-cons-d.false in
    omega (arith, inside, c.requires.at_span.1.dists)

pub offset_bounds-ids-t-2 : goal.offset_bounds-ids-t-2
offset_bounds-ids-t-2 c = let inside : c.neighbour-t.result.0 < length c.args.area.now = leads_inside _ _ _ _ _ _ _ c.requires.at_span.0 c.requires.d_bound.0 c.neighbour-t.ensures c.if-cons-d.false in
    let small : c.neighbour-t.result.0 < most_spans = omega (arith, inside, net_few _ _ _ c.requires.at_span.0.closed) in
    omega (arith, small)

pub bounds-ids-t-2 : goal.bounds-ids-t-2
bounds-ids-t-2 c = let inside : c.neighbour-t.result.0 < length c.args.area.now = leads_inside _ _ _ _ _ _ _ c.requires.at_span.0 c.requires.d_bound.0 c.neighbour-t.ensures c.if-cons-d.false in
    omega (arith, inside, c.requires.at_span.1.idents)

pub offset_bounds-ws-t : goal.offset_bounds-ws-t
offset_bounds-ws-t c = let inside : c.neighbour-t.result.0 < length c.args.area.now = leads_inside _ _ _ _ _ _ _ c.requires.at_span.0 c.requires.d_bound.0 c.neighbour-t.ensures c.if-cons-d.false in
    let small : c.neighbour-t.result.0 < most_spans = omega (arith, inside, net_few _ _ _ c.requires.at_span.0.closed) in
    omega (arith, small)

pub bounds-ws-t : goal.bounds-ws-t
bounds-ws-t c = let inside : c.neighbour-t.result.0 < length c.args.area.now = leads_inside _ _ _ _ _ _ _ c.requires.at_span.0 c.requires.d_bound.0 c.neighbour-t.ensures c.if-cons-d.false in
    let fits : (c.args.height.top < length c.args.area.now)
    × (c.args.at.stack + c.args.height.top < length c.args.ws.now) = push_fits _ _ _ _ _ _ c.args.ws.now c.requires.at_span.1.idents c.requires.at_span.1.low (stack_in c.requires.at_span.1 c.requires.at_span.0) c.requires.d_bound.1 (inside) c.if-ids-t-ne0.false c.requires.d_bound.3 in
    omega (arith, inside, fits, c.requires.at_span.1.low)

pub overflow_cast-ws : goal.overflow_cast-ws
overflow_cast-ws c = let inside : c.neighbour-t.result.0 < length c.args.area.now = leads_inside _ _ _ _ _ _ _ c.requires.at_span.0 c.requires.d_bound.0 c.neighbour-t.ensures c.if-cons-d.false in
    let small : c.neighbour-t.result.0 < most_spans = omega (arith, inside, net_few _ _ _ c.requires.at_span.0.closed) in
    omega (arith, small)

pub overflow_add-ws : goal.overflow_add-ws
overflow_add-ws c = let inside : c.neighbour-t.result.0 < length c.args.area.now = leads_inside _ _ _ _ _ _ _ c.requires.at_span.0 c.requires.d_bound.0 c.neighbour-t.ensures c.if-cons-d.false in
    let fits : (c.args.height.top < length c.args.area.now)
    × (c.args.at.stack + c.args.height.top < length c.args.ws.now) = push_fits _ _ _ _ _ _ c.args.ws.now c.requires.at_span.1.idents c.requires.at_span.1.low (stack_in c.requires.at_span.1 c.requires.at_span.0) c.requires.d_bound.1 (inside) c.if-ids-t-ne0.false c.requires.d_bound.3 in
    omega (arith, fits, c.requires.at_span.1.apart, c.requires.at_span.0.place)

pub offset_bounds-ws-at : goal.offset_bounds-ws-at
offset_bounds-ws-at c = let inside : c.neighbour-t.result.0 < length c.args.area.now = leads_inside _ _ _ _ _ _ _ c.requires.at_span.0 c.requires.d_bound.0 c.neighbour-t.ensures c.if-cons-d.false in
    let fits : (c.args.height.top < length c.args.area.now)
    × (c.args.at.stack + c.args.height.top < length c.args.ws.now) = push_fits _ _ _ _ _ _ c.args.ws.now c.requires.at_span.1.idents c.requires.at_span.1.low (stack_in c.requires.at_span.1 c.requires.at_span.0) c.requires.d_bound.1 (inside) c.if-ids-t-ne0.false c.requires.d_bound.3 in
    omega (arith, fits, c.requires.at_span.1.apart, c.requires.at_span.0.place)

pub bounds-ws-at : goal.bounds-ws-at
bounds-ws-at c = let inside : c.neighbour-t.result.0 < length c.args.area.now = leads_inside _ _ _ _ _ _ _ c.requires.at_span.0 c.requires.d_bound.0 c.neighbour-t.ensures c.if-cons-d.false in
    let fits : (c.args.height.top < length c.args.area.now)
    × (c.args.at.stack + c.args.height.top < length c.args.ws.now) = push_fits _ _ _ _ _ _ c.args.ws.now c.requires.at_span.1.idents c.requires.at_span.1.low (stack_in c.requires.at_span.1 c.requires.at_span.0) c.requires.d_bound.1 (inside) c.if-ids-t-ne0.false c.requires.d_bound.3 in
    simp length-set fits.1

pub overflow_add-result : goal.overflow_add-result
overflow_add-result c = let inside : c.neighbour-t.result.0 < length c.args.area.now = leads_inside _ _ _ _ _ _ _ c.requires.at_span.0 c.requires.d_bound.0 c.neighbour-t.ensures c.if-cons-d.false in
    let fits : (c.args.height.top < length c.args.area.now)
    × (c.args.at.stack + c.args.height.top < length c.args.ws.now) = push_fits _ _ _ _ _ _ c.args.ws.now c.requires.at_span.1.idents c.requires.at_span.1.low (stack_in c.requires.at_span.1 c.requires.at_span.0) c.requires.d_bound.1 (inside) c.if-ids-t-ne0.false c.requires.d_bound.3 in
    omega (arith, fits, net_few _ _ _ c.requires.at_span.0.closed)

pub shape_of-ids : goal.shape_of-ids
shape_of-ids c = simp length-set

pub shape_of-ws : goal.shape_of-ws
shape_of-ws c = simp length-set

pub returns : goal.returns
returns c = let inside : c.neighbour-t.result.0 < length c.args.area.now = leads_inside _ _ _ _ _ _ _ c.requires.at_span.0 c.requires.d_bound.0 c.neighbour-t.ensures c.if-cons-d.false in
    let fits : (c.args.height.top < length c.args.area.now)
    × (c.args.at.stack + c.args.height.top < length c.args.ws.now) = push_fits _ _ _ _ _ _ c.args.ws.now c.requires.at_span.1.idents c.requires.at_span.1.low (stack_in c.requires.at_span.1 c.requires.at_span.0) c.requires.d_bound.1 (inside) c.if-ids-t-ne0.false c.requires.d_bound.3 in
    record {
      result_after = push_flow _ _ _ _ _ _ _ _ _ _ _ c.requires.at_span.0 c.requires.d_bound.0 _ c.neighbour-t.ensures inside c.if-area-t.false c.if-ids-t-ne0.false c.if-dist-t.false c.requires.at_span.1.low fits.1;
      fact = push_pushed _ _ _ _ _ _ _ c.requires.at_span.1.idents c.requires.at_span.1.low (stack_in c.requires.at_span.1 c.requires.at_span.0) c.requires.d_bound.1 inside c.if-ids-t-ne0.false c.requires.d_bound.3;
    }
