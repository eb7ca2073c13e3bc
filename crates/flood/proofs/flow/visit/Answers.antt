-- The popped span bears the id, so it is a span (Visits). It objects, and the flow is the rule's; or it counts,
-- and its neighbours are pushed from the workspace without it. What is told goes by the same two ways (Stories).
use mathlib.Core.Path.{◌≡◌, sym, ◌∙◌}
use Prim.Native.Nat.{◌+◌, ◌-◌, ◌<◌, ◌≤◌}
use native.Mathlib.Omega.{arith}
use lib.ListN.{length, length-set}
use Rattle.rules.specs.Refusals.{most_spans}
use Rattle.net.specs.Table.{net_at, AtSpan}
use Rattle.net.proofs.Tables.{lent-span, lent_same, net_few}
use Rattle.flood.specs.Stack.{Kept}
use Rattle.flood.proofs.Pushes.{lent_stack_in, net_kept, kept_then}
use Rattle.flood.proofs.Visits.{good-held, good_top, visit-objects, visit_counts, popped_kept, popped_blank}
use Rattle.flood.proofs.Stories.{popped_back, popped_calm}
use Rattle.flood.proofs.flow.visit.Goals as goal

pub overflow_sub-top : goal.overflow_sub-top
overflow_sub-top c = omega (arith, c.requires.flooding.1)

pub overflow_add-at : goal.overflow_add-at
overflow_add-at c = let top_in : c.args.height.top - 1 < length c.args.area.now = omega (arith, (good-held _ _ _ _ _ _ c.requires.flooding.0.good).1, c.requires.flooding.1) in
    let few : length c.args.area.now ≤ most_spans = net_few _ _ _ c.requires.lent.0.closed in
    omega (arith, top_in, few, c.requires.lent.1.apart, c.requires.lent.0.place)

pub pop-s-requires : goal.pop-s-requires
pop-s-requires c = let top_in : c.args.height.top - 1 < length c.args.area.now = omega (arith, (good-held _ _ _ _ _ _ c.requires.flooding.0.good).1, c.requires.flooding.1) in
    let place_in : c.args.at.stack + (c.args.height.top - 1) < length c.args.ws.now = omega (arith, top_in, lent_stack_in c.requires.lent.1 c.requires.lent.0) in
    place_in

pub connections-cons-requires : goal.connections-cons-requires
connections-cons-requires c = let span_in_lem : c.pop-s.result < length c.args.area.now = omega (arith, good_top _ _ _ _ _ _ c.requires.flooding.0.good c.requires.id_nonzero.0 c.requires.flooding.1, c.pop-s.ensures.0) in
    omega (arith, span_in_lem, c.requires.lent.0.linked)

pub objects-requires : goal.objects-requires
objects-requires c = let top_in : c.args.height.top - 1 < length c.args.area.now = omega (arith, (good-held _ _ _ _ _ _ c.requires.flooding.0.good).1, c.requires.flooding.1) in
    let span_in_lem : c.pop-s.result < length c.args.area.now = omega (arith, good_top _ _ _ _ _ _ c.requires.flooding.0.good c.requires.id_nonzero.0 c.requires.flooding.1, c.pop-s.ensures.0) in
    let kept : Kept (length c.args.area.now) c.args.at.stack c.args.ws.now c.pop-s.new.ws = popped_kept _ _ _ _ _ c.pop-s.ensures.1 (top_in) in
    let net : net_at c.args.at.table c.args.area.now c.pop-s.new.ws ≡ net_at c.args.at.table c.args.area.now c.args.ws.now = net_kept _ c.requires.lent.1 c.requires.lent.0.room (kept) in
    let at-span : AtSpan c.args.at.table c.args.area.now c.pop-s.new.ws c.connections-cons.result c.pop-s.result = lent-span _ _ _ _ _ _ (lent_same _ _ _ _ _ (kept).size (net) c.requires.lent.0) (span_in_lem) c.connections-cons.ensures in
    (at-span, c.requires.lent.1.idents, c.requires.id_nonzero.1)

pub give_back-told-requires : goal.give_back-told-requires
give_back-told-requires c = let top_in : c.args.height.top - 1 < length c.args.area.now = omega (arith, (good-held _ _ _ _ _ _ c.requires.flooding.0.good).1, c.requires.flooding.1) in
    let span_in_lem : c.pop-s.result < length c.args.area.now = omega (arith, good_top _ _ _ _ _ _ c.requires.flooding.0.good c.requires.id_nonzero.0 c.requires.flooding.1, c.pop-s.ensures.0) in
    let kept : Kept (length c.args.area.now) c.args.at.stack c.args.ws.now c.pop-s.new.ws = popped_kept _ _ _ _ _ c.pop-s.ensures.1 (top_in) in
    let net : net_at c.args.at.table c.args.area.now c.pop-s.new.ws ≡ net_at c.args.at.table c.args.area.now c.args.ws.now = net_kept _ c.requires.lent.1 c.requires.lent.0.room (kept) in
    let at-span : AtSpan c.args.at.table c.args.area.now c.pop-s.new.ws c.connections-cons.result c.pop-s.result = lent-span _ _ _ _ _ _ (lent_same _ _ _ _ _ (kept).size (net) c.requires.lent.0) (span_in_lem) c.connections-cons.ensures in
    record {
      at_span = (at-span, c.requires.lent.1.idents, c.requires.id_nonzero.1);
      span_value = sym c.objects.ensures ∙ c.if-objects.true;
    }

pub offset_bounds-ids-s : goal.offset_bounds-ids-s
offset_bounds-ids-s c = let few : length c.args.area.now ≤ most_spans = net_few _ _ _ c.requires.lent.0.closed in
    let span_in_lem : c.pop-s.result < length c.args.area.now = omega (arith, good_top _ _ _ _ _ _ c.requires.flooding.0.good c.requires.id_nonzero.0 c.requires.flooding.1, c.pop-s.ensures.0) in
    omega (arith, span_in_lem, few)

pub bounds-ids-s : goal.bounds-ids-s
bounds-ids-s c = let span_in_lem : c.pop-s.result < length c.args.area.now = omega (arith, good_top _ _ _ _ _ _ c.requires.flooding.0.good c.requires.id_nonzero.0 c.requires.flooding.1, c.pop-s.ensures.0) in
    omega (arith, span_in_lem, c.requires.lent.1.idents)

pub shape_of-ids-then-objects : goal.shape_of-ids-then-objects
shape_of-ids-then-objects c = simp length-set

pub shape_of-ws-then-objects : goal.shape_of-ws-then-objects
shape_of-ws-then-objects c = let top_in : c.args.height.top - 1 < length c.args.area.now = omega (arith, (good-held _ _ _ _ _ _ c.requires.flooding.0.good).1, c.requires.flooding.1) in
    let kept : Kept (length c.args.area.now) c.args.at.stack c.args.ws.now c.pop-s.new.ws = popped_kept _ _ _ _ _ c.pop-s.ensures.1 (top_in) in
    kept.size

pub returns-then-objects : goal.returns-then-objects
returns-then-objects c = let top_in : c.args.height.top - 1 < length c.args.area.now = omega (arith, (good-held _ _ _ _ _ _ c.requires.flooding.0.good).1, c.requires.flooding.1) in
    let place_in : c.args.at.stack + (c.args.height.top - 1) < length c.args.ws.now = omega (arith, top_in, lent_stack_in c.requires.lent.1 c.requires.lent.0) in
    let kept : Kept (length c.args.area.now) c.args.at.stack c.args.ws.now c.pop-s.new.ws = popped_kept _ _ _ _ _ c.pop-s.ensures.1 (top_in) in
    let net : net_at c.args.at.table c.args.area.now c.pop-s.new.ws ≡ net_at c.args.at.table c.args.area.now c.args.ws.now = net_kept _ c.requires.lent.1 c.requires.lent.0.room (kept) in
    record {
      height_after = visit-objects _ _ _ _ _ _ _ _ c.pop-s.ensures.1 c.requires.lent.1.low _ _ net _ _ _ c.pop-s.ensures.0 _ c.objects.ensures c.if-objects.true;
      fact = (kept, popped_blank _ _ _ _ _ _ c.pop-s.ensures.1 (omega (arith, c.requires.flooding.1)) place_in c.requires.flooding.0.blank);
      story_value = popped_back _ _ _ _ _ _ c.pop-s.ensures.1 c.requires.lent.1.low _ _ net _ _ _ c.pop-s.ensures.0 _ _ c.give_back-told.ensures;
    }

pub overflow_add-counted : goal.overflow_add-counted
overflow_add-counted c = let few : length c.args.area.now ≤ most_spans = net_few _ _ _ c.requires.lent.0.closed in
    omega (arith, (good-held _ _ _ _ _ _ c.requires.flooding.0.good).1, few)

pub push_all-requires : goal.push_all-requires
push_all-requires c = let top_in : c.args.height.top - 1 < length c.args.area.now = omega (arith, (good-held _ _ _ _ _ _ c.requires.flooding.0.good).1, c.requires.flooding.1) in
    let span_in_lem : c.pop-s.result < length c.args.area.now = omega (arith, good_top _ _ _ _ _ _ c.requires.flooding.0.good c.requires.id_nonzero.0 c.requires.flooding.1, c.pop-s.ensures.0) in
    let kept : Kept (length c.args.area.now) c.args.at.stack c.args.ws.now c.pop-s.new.ws = popped_kept _ _ _ _ _ c.pop-s.ensures.1 (top_in) in
    let net : net_at c.args.at.table c.args.area.now c.pop-s.new.ws ≡ net_at c.args.at.table c.args.area.now c.args.ws.now = net_kept _ c.requires.lent.1 c.requires.lent.0.room (kept) in
    let at-span : AtSpan c.args.at.table c.args.area.now c.pop-s.new.ws c.connections-cons.result c.pop-s.result = lent-span _ _ _ _ _ _ (lent_same _ _ _ _ _ (kept).size (net) c.requires.lent.0) (span_in_lem) c.connections-cons.ensures in
    record {
      at_span = (at-span, c.requires.lent.1);
      id_nonzero = (c.requires.id_nonzero.0, c.requires.id_nonzero.1, omega (arith, (good-held _ _ _ _ _ _ c.requires.flooding.0.good).0));
    }

pub shape_of-ids : goal.shape_of-ids
shape_of-ids c = c.push_all.auto.ids

pub shape_of-ws : goal.shape_of-ws
shape_of-ws c = let top_in : c.args.height.top - 1 < length c.args.area.now = omega (arith, (good-held _ _ _ _ _ _ c.requires.flooding.0.good).1, c.requires.flooding.1) in
    let kept : Kept (length c.args.area.now) c.args.at.stack c.args.ws.now c.pop-s.new.ws = popped_kept _ _ _ _ _ c.pop-s.ensures.1 (top_in) in
    c.push_all.auto.ws ∙ kept.size

pub returns : goal.returns
returns c = let top_in : c.args.height.top - 1 < length c.args.area.now = omega (arith, (good-held _ _ _ _ _ _ c.requires.flooding.0.good).1, c.requires.flooding.1) in
    let place_in : c.args.at.stack + (c.args.height.top - 1) < length c.args.ws.now = omega (arith, top_in, lent_stack_in c.requires.lent.1 c.requires.lent.0) in
    let kept : Kept (length c.args.area.now) c.args.at.stack c.args.ws.now c.pop-s.new.ws = popped_kept _ _ _ _ _ c.pop-s.ensures.1 (top_in) in
    let net : net_at c.args.at.table c.args.area.now c.pop-s.new.ws ≡ net_at c.args.at.table c.args.area.now c.args.ws.now = net_kept _ c.requires.lent.1 c.requires.lent.0.room (kept) in
    record {
      height_after = visit_counts _ _ _ _ _ _ _ _ c.pop-s.ensures.1 c.requires.lent.1.low _ _ net _ _ _ c.pop-s.ensures.0 _ c.objects.ensures _ _ _ c.if-objects.false c.push_all.ensures.result_after;
      fact = (
        kept_then kept c.push_all.ensures.fact.kept,
        c.push_all.ensures.fact.blank (popped_blank _ _ _ _ _ _ c.pop-s.ensures.1 (omega (arith, c.requires.flooding.1)) place_in c.requires.flooding.0.blank),
      );
      story_value = popped_calm _ _ _ _ _ _ c.pop-s.ensures.1 c.requires.lent.1.low _ _ net _ _ _ c.pop-s.ensures.0 _ _ c.objects.ensures c.if-objects.false;
    }
