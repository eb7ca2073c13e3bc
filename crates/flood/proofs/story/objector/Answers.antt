-- A neighbour that is there is a span, so its id and its own neighbours can be read; each answer is the rule's under what has been tested (Stories).
use native.Mathlib.Omega.{arith}
use borrow.Author.Rules.{rules}
use lib.ListN.{length}
use Prim.Native.Nat.{◌+◌, ◌*◌, ◌%◌, ◌<◌}
use Rattle.field.proofs.Places.{turned}
use Rattle.net.proofs.Tables.{slot_in, net_few, net_inside}
use Rattle.flood.proofs.Stories.{objector-none, objector-side, objector-corner}
use Rattle.flood.proofs.story.objector.Goals as goal

pub neighbour-t-requires : goal.neighbour-t-requires
neighbour-t-requires c = (c.requires.0.place, omega (arith, c.requires.0.span, net_few _ _ _ c.requires.0.closed), c.requires.2, slot_in _ _ _ _ _ _ 0 c.requires.0 c.requires.2)

pub returns-then-t-eq-NO_SPAN : goal.returns-then-t-eq-NO_SPAN
returns-then-t-eq-NO_SPAN c = search (rules, objector-none)

pub offset_bounds-ids-t : goal.offset_bounds-ids-t
offset_bounds-ids-t c = let inside : c.neighbour-t.result.0 < length c.args.area.now = net_inside _ _ _ _ _ _ c.requires.0.closed c.requires.0.room c.requires.0.span c.requires.2 c.neighbour-t.ensures c.if-t-eq-NO_SPAN.false in
    omega (arith, inside, net_few _ _ _ c.requires.0.closed)

pub bounds-ids-t : goal.bounds-ids-t
bounds-ids-t c = let inside : c.neighbour-t.result.0 < length c.args.area.now = net_inside _ _ _ _ _ _ c.requires.0.closed c.requires.0.room c.requires.0.span c.requires.2 c.neighbour-t.ensures c.if-t-eq-NO_SPAN.false in
    omega (arith, inside, c.requires.1)

pub overflow_cast-result : goal.overflow_cast-result
overflow_cast-result c = let inside : c.neighbour-t.result.0 < length c.args.area.now = net_inside _ _ _ _ _ _ c.requires.0.closed c.requires.0.room c.requires.0.span c.requires.2 c.neighbour-t.ensures c.if-t-eq-NO_SPAN.false in
    omega (arith, inside, net_few _ _ _ c.requires.0.closed)

pub returns-then-other : goal.returns-then-other
returns-then-other c = search (rules, objector-side)

pub neighbour-requires : goal.neighbour-requires
neighbour-requires c = let inside : c.neighbour-t.result.0 < length c.args.area.now = net_inside _ _ _ _ _ _ c.requires.0.closed c.requires.0.room c.requires.0.span c.requires.2 c.neighbour-t.ensures c.if-t-eq-NO_SPAN.false in
    (c.requires.0.place, omega (arith, inside, net_few _ _ _ c.requires.0.closed), turned _ _, omega (arith, inside, c.requires.0.room, turned c.args.d 1))

pub overflow_cast-result-2 : goal.overflow_cast-result-2
overflow_cast-result-2 c = omega (arith, c.neighbour.ensures, c.type_inv.ws (c.args.table + (4 * c.neighbour-t.result.0 + (c.args.d + 1) % 4)))

pub returns : goal.returns
returns c = let inside : c.neighbour-t.result.0 < length c.args.area.now = net_inside _ _ _ _ _ _ c.requires.0.closed c.requires.0.room c.requires.0.span c.requires.2 c.neighbour-t.ensures c.if-t-eq-NO_SPAN.false in
    objector-corner _ _ _ _ _ _ _ _ c.requires.0 c.requires.2 _ c.neighbour-t.ensures _ c.other.ensures c.if-other.false inside _ c.neighbour.ensures
