-- The records are built before `end`, the merges noted past it, and what is told of the span's record is the rule's (GrownLaws); the trail is laid in the
-- list of ids, which holds one number a span.
use native.Mathlib.Omega.{arith}
use Prim.Native.Nat.{ℕ, ◌-◌}
use mathlib.Core.Path.{refl, ap, ◌∙◌}
use lib.ListN.{get_or}
use Rattle.rules.specs.Reasons.{Story, trail}
use Rattle.rooms.proofs.Entry.{first_some}
use Rattle.trail.specs.Noted.{mergings_from}
use Rattle.watershed.proofs.GrownLaws.{can_ready_part, short, sized, past_room, part_given, part-blank, part_fits, part_ready, id_below, group_small, told_id, told_group, told-trail, told_number, noted_room, laid_room}
use Rattle.watershed.proofs.ExplainLaws.{no_room_told, room_told, tells_filtered_out, filtered_out_at, has_room_at}
use Rattle.watershed.proofs.explain.explain_region.Goals as goal

pub links_past-end-requires : goal.links_past-end-requires
links_past-end-requires c = let n = short _ _ _ _ _ _ _ _ _ _ _ _ _ _ _ c.requires.0 c.codes_are_bytes.ensures in
    (omega (arith, n), n)

pub bounds-ids-span : goal.bounds-ids-span
bounds-ids-span c = omega (arith, c.requires.0.span, sized _ _ _ _ _ _ _ _ _ _ _ _ _ _ _ c.requires.0 c.codes_are_bytes.ensures)

pub overflow_add-next : goal.overflow_add-next
overflow_add-next c = omega (arith, (can_ready_part _ _ _ _ _ _ _ _ _ _ _ _ _ _ _ c.requires.0 c.codes_are_bytes.ensures).0)

pub ready_records-requires : goal.ready_records-requires
ready_records-requires c = can_ready_part _ _ _ _ _ _ _ _ _ _ _ _ _ _ _ c.requires.0 c.codes_are_bytes.ensures

pub build_in-requires : goal.build_in-requires
build_in-requires c = (omega (arith, past_room _ _ _ _ _ _ _ _ _ _ _ _ _ _ _ c.requires.0 c.codes_are_bytes.ensures _ c.links_past-end.ensures _ c.ready_records.auto.ws c.ready_records.ensures), part_given _ _ _ _ _ _ _ _ _ _ _ _ _ _ _ c.requires.0 c.codes_are_bytes.ensures _ c.links_past-end.ensures _ c.ready_records.auto.ws c.ready_records.ensures, part-blank _ _ _ _ _ _ _ _ _ _ _ _ _ _ _ c.requires.0 c.codes_are_bytes.ensures _ c.links_past-end.ensures _ c.ready_records.auto.ws c.ready_records.ensures, part_fits _ _ _ _ _ _ _ _ _ _ _ _ _ _ _ c.requires.0 c.codes_are_bytes.ensures)

pub merge_and_filter_told-t-requires : goal.merge_and_filter_told-t-requires
merge_and_filter_told-t-requires c = (omega (arith, past_room _ _ _ _ _ _ _ _ _ _ _ _ _ _ _ c.requires.0 c.codes_are_bytes.ensures _ c.links_past-end.ensures _ c.ready_records.auto.ws c.ready_records.ensures, c.build_in.auto.ws), part_ready _ _ _ _ _ _ _ _ _ _ _ _ _ _ _ c.requires.0 c.codes_are_bytes.ensures _ c.links_past-end.ensures _ c.ready_records.auto.ws c.ready_records.ensures _ c.build_in.auto.ws c.build_in.ensures, id_below _ _ _ _ _ _ _ _ _ _ _ _ _ _ _ c.requires.0 c.codes_are_bytes.ensures c.requires.1.plain)

pub overflow_sub-first_id : goal.overflow_sub-first_id
overflow_sub-first_id c = omega (arith, c.first_id.ensures, first_some c.args.sizes.border)

pub without_room-requires : goal.without_room-requires
without_room-requires c = omega (arith, group_small _ _ _ _ _ _ _ _ _ _ _ _ _ _ _ c.requires.0 c.codes_are_bytes.ensures _ c.links_past-end.ensures _ c.ready_records.auto.ws c.ready_records.ensures _ c.build_in.auto.ws c.build_in.ensures _ _ _ _ _ _ _ _ refl c.merge_and_filter_told-t.ensures)

pub shape_of-ws-then-t-eq0 : goal.shape_of-ws-then-t-eq0
shape_of-ws-then-t-eq0 c = c.merge_and_filter_told-t.auto.ws ∙ c.build_in.auto.ws ∙ c.ready_records.auto.ws

pub returns-then-t-eq0 : goal.returns-then-t-eq0
returns-then-t-eq0 c = no_room_told _ _ _ _ _ _ _ _ c.without_room.ensures c.clear.ensures (c.merge_and_filter_told-t.auto.ids ∙ sized _ _ _ _ _ _ _ _ _ _ _ _ _ _ _ c.requires.0 c.codes_are_bytes.ensures) (tells_filtered_out _ _ _ _)
    (filtered_out_at _ _ _ _ _ _ c.requires.0.grew c.requires.0.span c.requires.1 _ _ (told_id _ _ _ _ _ _ _ _ _ _ _ _ _ _ _ c.requires.0 c.codes_are_bytes.ensures _ c.links_past-end.ensures _ c.ready_records.auto.ws c.ready_records.ensures _ c.build_in.auto.ws c.build_in.ensures _ _ _ _ _ _ _ _ refl c.merge_and_filter_told-t.ensures) c.if-t-eq0.true (told_group _ _ _ _ _ _ _ _ _ _ _ _ _ _ _ c.requires.0 c.codes_are_bytes.ensures _ c.links_past-end.ensures _ c.ready_records.auto.ws c.ready_records.ensures _ c.build_in.auto.ws c.build_in.ensures _ _ _ _ _ _ _ _ refl c.merge_and_filter_told-t.ensures))

pub offset_bounds-ids-span-2 : goal.offset_bounds-ids-span-2
offset_bounds-ids-span-2 c = omega (arith, c.requires.0.span, short _ _ _ _ _ _ _ _ _ _ _ _ _ _ _ c.requires.0 c.codes_are_bytes.ensures)

pub bounds-ids-span-2 : goal.bounds-ids-span-2
bounds-ids-span-2 c = omega (arith, c.requires.0.span, sized _ _ _ _ _ _ _ _ _ _ _ _ _ _ _ c.requires.0 c.codes_are_bytes.ensures, c.merge_and_filter_told-t.auto.ids)

pub lay_trail-long-requires : goal.lay_trail-long-requires
lay_trail-long-requires c = (
  omega (arith, noted_room _ _ _ _ _ _ _ _ _ _ _ _ _ _ _ c.requires.0 c.codes_are_bytes.ensures _ c.links_past-end.ensures _ c.ready_records.auto.ws c.ready_records.ensures _ c.build_in.auto.ws c.build_in.ensures _ _ _ _ _ _ _ _ refl c.merge_and_filter_told-t.ensures, c.merge_and_filter_told-t.auto.ws, c.build_in.auto.ws),
  omega (arith, laid_room _ _ _ _ _ _ _ _ _ _ _ _ _ _ _ c.requires.0 c.codes_are_bytes.ensures _ c.links_past-end.ensures _ c.ready_records.auto.ws c.ready_records.ensures _ c.build_in.auto.ws c.build_in.ensures _ _ _ _ _ _ _ _ refl c.merge_and_filter_told-t.ensures c.if-t-eq0.false, c.merge_and_filter_told-t.auto.ids, sized _ _ _ _ _ _ _ _ _ _ _ _ _ _ _ c.requires.0 c.codes_are_bytes.ensures),
)

pub in_room-requires : goal.in_room-requires
in_room-requires c = omega (arith, c.lay_trail-long.ensures.0, laid_room _ _ _ _ _ _ _ _ _ _ _ _ _ _ _ c.requires.0 c.codes_are_bytes.ensures _ c.links_past-end.ensures _ c.ready_records.auto.ws c.ready_records.ensures _ c.build_in.auto.ws c.build_in.ensures _ _ _ _ _ _ _ _ refl c.merge_and_filter_told-t.ensures c.if-t-eq0.false, short _ _ _ _ _ _ _ _ _ _ _ _ _ _ _ c.requires.0 c.codes_are_bytes.ensures)

pub shape_of-ws : goal.shape_of-ws
shape_of-ws c = c.merge_and_filter_told-t.auto.ws ∙ c.build_in.auto.ws ∙ c.ready_records.auto.ws

pub returns : goal.returns
returns c = let d = ap (λ (f : ℕ). f - 1) c.first_id.ensures in
    let t = trail (mergings_from c.merge_and_filter_told-t.new.ws c.links_past-end.result c.merge_and_filter_told-t.result.merges)
    (get_or c.args.ids.now c.args.span 0) in
    room_told _ _ _ _ _ _ t _ c.lay_trail-long.ensures.1 (c.merge_and_filter_told-t.auto.ids ∙ sized _ _ _ _ _ _ _ _ _ _ _ _ _ _ _ c.requires.0 c.codes_are_bytes.ensures) (c.in_room.ensures _ t c.lay_trail-long.ensures.0)
    (has_room_at _ _ _ _ _ _ c.requires.0.grew c.requires.0.span c.requires.1 _ _ _ _ _ (told_id _ _ _ _ _ _ _ _ _ _ _ _ _ _ _ c.requires.0 c.codes_are_bytes.ensures _ c.links_past-end.ensures _ c.ready_records.auto.ws c.ready_records.ensures _ c.build_in.auto.ws c.build_in.ensures _ _ _ _ _ _ _ _ refl c.merge_and_filter_told-t.ensures) c.if-t-eq0.false refl (ap (λ (y : Story). y.from) c.requires.0.told) (told-trail _ _ _ _ _ _ _ _ _ _ _ _ _ _ _ c.requires.0 c.codes_are_bytes.ensures _ c.links_past-end.ensures _ c.ready_records.auto.ws c.ready_records.ensures _ c.build_in.auto.ws c.build_in.ensures _ _ _ _ _ _ _ _ refl c.merge_and_filter_told-t.ensures)
    (told_number _ _ _ _ _ _ _ _ _ _ _ _ _ _ _ c.requires.0 c.codes_are_bytes.ensures _ c.links_past-end.ensures _ c.ready_records.auto.ws c.ready_records.ensures _ c.build_in.auto.ws c.build_in.ensures _ _ _ _ _ _ _ _ refl c.merge_and_filter_told-t.ensures _ _ d c.lower-number.ensures))
