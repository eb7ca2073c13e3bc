-- Each answer is the rule's under what has been tested by then (Sight); a neighbour that is there is a span.
use native.Mathlib.Omega.{arith}
use borrow.Author.Rules.{rules}
use lib.ListN.{length}
use Prim.Native.Nat.{◌<◌}
use Rattle.field.proofs.Places.{turned}
use Rattle.net.proofs.Tables.{slot_in, leads_inside, net_few, net_inside}
use Rattle.flood.specs.Looks.{view_number}
use Rattle.flood.proofs.Sight.{sees-none, sees-other_area, sees-flagged, sees-other_id, sees-corner, sees-nothing}
use Rattle.flood.proofs.look.sees.Goals as goal

pub returns-then-cons-d : goal.returns-then-cons-d
unfolding view_number
returns-then-cons-d c = search (rules, sees-none)

pub neighbour-t-requires : goal.neighbour-t-requires
neighbour-t-requires c = (c.requires.0.place, omega (arith, c.requires.0.span, net_few _ _ _ c.requires.0.closed), c.requires.2, slot_in _ _ _ _ _ _ 0 c.requires.0 c.requires.2)

pub bounds-area-t : goal.bounds-area-t
bounds-area-t c = let inside : c.neighbour-t.result.0 < length c.args.area.now = leads_inside _ _ _ _ _ _ _ c.requires.0 c.requires.2 c.neighbour-t.ensures c.if-cons-d.false in
    inside

pub returns-then-area-t : goal.returns-then-area-t
unfolding view_number
returns-then-area-t c = let inside : c.neighbour-t.result.0 < length c.args.area.now = leads_inside _ _ _ _ _ _ _ c.requires.0 c.requires.2 c.neighbour-t.ensures c.if-cons-d.false in
    sees-other_area _ _ _ _ _ _ _ _ c.requires.0 c.requires.2 _ c.neighbour-t.ensures inside c.if-area-t.true

pub offset_bounds-ids-t : goal.offset_bounds-ids-t
offset_bounds-ids-t c = let inside : c.neighbour-t.result.0 < length c.args.area.now = leads_inside _ _ _ _ _ _ _ c.requires.0 c.requires.2 c.neighbour-t.ensures c.if-cons-d.false in
    omega (arith, inside)

pub bounds-ids-t : goal.bounds-ids-t
bounds-ids-t c = let inside : c.neighbour-t.result.0 < length c.args.area.now = leads_inside _ _ _ _ _ _ _ c.requires.0 c.requires.2 c.neighbour-t.ensures c.if-cons-d.false in
    omega (arith, inside)

pub returns-then-is_border : goal.returns-then-is_border
unfolding view_number
returns-then-is_border c = let inside : c.neighbour-t.result.0 < length c.args.area.now = leads_inside _ _ _ _ _ _ _ c.requires.0 c.requires.2 c.neighbour-t.ensures c.if-cons-d.false in
    sees-flagged _ _ _ _ _ _ _ _ c.requires.0 c.requires.2 _ c.neighbour-t.ensures inside c.if-area-t.false _ c.is_border.ensures c.if-is_border.true

pub returns-then-other : goal.returns-then-other
unfolding view_number
returns-then-other c = let inside : c.neighbour-t.result.0 < length c.args.area.now = leads_inside _ _ _ _ _ _ _ c.requires.0 c.requires.2 c.neighbour-t.ensures c.if-cons-d.false in
    sees-other_id _ _ _ _ _ _ _ _ c.requires.0 c.requires.2 _ c.neighbour-t.ensures inside c.if-area-t.false _ c.is_border.ensures c.if-is_border.false
    _ c.other.ensures c.if-other.true

pub neighbour-corner-requires : goal.neighbour-corner-requires
neighbour-corner-requires c = let inside : c.neighbour-t.result.0 < length c.args.area.now = leads_inside _ _ _ _ _ _ _ c.requires.0 c.requires.2 c.neighbour-t.ensures c.if-cons-d.false in
    (c.requires.0.place, omega (arith, inside, net_few _ _ _ c.requires.0.closed), turned _ _, omega (arith, inside, c.requires.0.room, turned c.args.d 1))

pub bears-requires : goal.bears-requires
bears-requires c = let inside : c.neighbour-t.result.0 < length c.args.area.now = leads_inside _ _ _ _ _ _ _ c.requires.0 c.requires.2 c.neighbour-t.ensures c.if-cons-d.false in
    record {
      area_len_bound = (net_few _ _ _ c.requires.0.closed, net_inside _ _ _ _ _ _ c.requires.0.closed c.requires.0.room inside (turned _ _) c.neighbour-corner.ensures);
      ids_len = (c.requires.1, c.requires.3);
    }

pub returns-then-bears : goal.returns-then-bears
unfolding view_number
returns-then-bears c = let inside : c.neighbour-t.result.0 < length c.args.area.now = leads_inside _ _ _ _ _ _ _ c.requires.0 c.requires.2 c.neighbour-t.ensures c.if-cons-d.false in
    sees-corner _ _ _ _ _ _ _ _ c.requires.0 c.requires.2 _ c.neighbour-t.ensures inside c.if-area-t.false _ c.is_border.ensures c.if-is_border.false
    _ c.other.ensures c.if-other.false _ c.neighbour-corner.ensures _ c.bears.ensures c.if-bears.true

pub returns : goal.returns
unfolding view_number
returns c = let inside : c.neighbour-t.result.0 < length c.args.area.now = leads_inside _ _ _ _ _ _ _ c.requires.0 c.requires.2 c.neighbour-t.ensures c.if-cons-d.false in
    sees-nothing _ _ _ _ _ _ _ _ c.requires.0 c.requires.2 _ c.neighbour-t.ensures inside c.if-area-t.false _ c.is_border.ensures c.if-is_border.false
    _ c.other.ensures c.if-other.false _ c.neighbour-corner.ensures _ c.bears.ensures c.if-bears.false
