-- The rule's cases in its order: walkable, flagged, reached (ExplainLaws). Zeros are left for reasons 1 to 3.
use native.Mathlib.Omega.{arith}
use mathlib.Core.Path.{◌≡◌}
use lib.ListN.{length}
use Rattle.watershed.proofs.GrownLaws.{sized}
use Rattle.watershed.proofs.ExplainLaws.{no_room_told, tells_not-walkable, tells_painted, tells_never_reached, not-walkable-at, painted-at, never_reached-at}
use Rattle.watershed.proofs.explain.explain_grown.Goals as goal

pub bounds-ids-span : goal.bounds-ids-span
bounds-ids-span c = let ids-sized : length c.args.ids.now ≡ length c.args.field.now.area.now = sized _ _ _ _ _ _ _ _ _ _ _ _ _ _ _ c.requires c.codes_are_bytes.ensures in
    omega (arith, c.requires.span, ids-sized)

pub returns-then-field-span-eq0 : goal.returns-then-field-span-eq0
returns-then-field-span-eq0 c = let ids-sized : length c.args.ids.now ≡ length c.args.field.now.area.now = sized _ _ _ _ _ _ _ _ _ _ _ _ _ _ _ c.requires c.codes_are_bytes.ensures in
    no_room_told _ _ _ _ _ _ _ _ c.without_room.ensures c.clear.ensures ids-sized (tells_not-walkable _ _) (not-walkable-at _ _ _ _ _ _ c.requires.grew c.requires.span c.if-field-span-eq0.true)

pub returns-then-r : goal.returns-then-r
returns-then-r c = let ids-sized : length c.args.ids.now ≡ length c.args.field.now.area.now = sized _ _ _ _ _ _ _ _ _ _ _ _ _ _ _ c.requires c.codes_are_bytes.ensures in
    no_room_told _ _ _ _ _ _ _ _ c.without_room-then-r.ensures c.clear-then-r.ensures ids-sized (tells_painted _ _ _)
    (painted-at _ _ _ _ _ _ c.requires.grew c.requires.span c.if-field-span-eq0.false c.if-r.true)

pub returns-then-r-eq0 : goal.returns-then-r-eq0
returns-then-r-eq0 c = let ids-sized : length c.args.ids.now ≡ length c.args.field.now.area.now = sized _ _ _ _ _ _ _ _ _ _ _ _ _ _ _ c.requires c.codes_are_bytes.ensures in
    no_room_told _ _ _ _ _ _ _ _ c.without_room-then-r-eq0.ensures c.clear-then-r-eq0.ensures ids-sized (tells_never_reached _ _)
    (never_reached-at _ _ _ _ _ _ c.requires.grew c.requires.span c.if-field-span-eq0.false c.if-r.false c.if-r-eq0.true)

pub explain_region-requires : goal.explain_region-requires
explain_region-requires c = (c.requires, record { walkable = c.if-field-span-eq0.false; plain = c.if-r.false; some = c.if-r-eq0.false })

pub returns : goal.returns
returns c = c.explain_region.ensures
