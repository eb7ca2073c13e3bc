-- A used entry and one with an id leave all as it is; else the flood gives what the rule's flood gives, and its id is advanced by success alone (FloodLaws).
use mathlib.Core.Path.{refl}
use Prim.Native.Nat.{◌<◌}
use native.Mathlib.Omega.{arith}
use lib.ListN.{length, get_or}
use Rattle.growth.proofs.FloodLaws.{next_begins, one_used, one-has_id, failed_one, won_one, failed_below, won_below, tells_used, tells_has_id, tells_flood}
use Rattle.growth.proofs.floods.flood_one.Goals as goal

pub returns-then-entry-eq-NO_SPAN : goal.returns-then-entry-eq-NO_SPAN
returns-then-entry-eq-NO_SPAN c = record {
  next_after = one_used _ _ _ _ _ _ c.if-entry-eq-NO_SPAN.true;
  fact = (refl, omega (arith, c.requires.blank.1.plain), λ _. c.requires.blank.1);
  story_value = tells_used _ _ _ _ _ _ _ c.if-entry-eq-NO_SPAN.true;
}

pub offset_bounds-ids-entry : goal.offset_bounds-ids-entry
offset_bounds-ids-entry c = let inside : c.args.entry < length c.args.area.now = c.requires.span c.if-entry-eq-NO_SPAN.false in
    omega (arith, inside)

pub bounds-ids-entry : goal.bounds-ids-entry
bounds-ids-entry c = let inside : c.args.entry < length c.args.area.now = c.requires.span c.if-entry-eq-NO_SPAN.false in
    omega (arith, inside, c.requires.lent.1.idents)

pub returns-then-ids-entry : goal.returns-then-ids-entry
returns-then-ids-entry c = record {
  next_after = one-has_id _ _ _ _ _ _ c.if-entry-eq-NO_SPAN.false c.if-ids-entry.true;
  fact = (refl, omega (arith, c.requires.blank.1.plain), λ _. c.requires.blank.1);
  story_value = tells_has_id _ _ _ _ _ _ _ c.if-entry-eq-NO_SPAN.false c.if-ids-entry.true;
}

pub flood_region-f-requires : goal.flood_region-f-requires
flood_region-f-requires c = let inside : c.args.entry < length c.args.area.now = c.requires.span c.if-entry-eq-NO_SPAN.false in
    record {
      lent = c.requires.lent;
      begins = (next_begins _ _ _ _ c.requires.blank.1 inside c.if-ids-entry.false, c.requires.blank.0);
    }

pub returns-then-f-eq0 : goal.returns-then-f-eq0
returns-then-f-eq0 c = let inside : c.args.entry < length c.args.area.now = c.requires.span c.if-entry-eq-NO_SPAN.false in
    let byte : get_or c.args.area.now c.args.entry 0 < 256 = omega (arith, c.type_inv.area c.args.entry) in
    record {
      next_after = failed_one _ _ _ _ _ _ _ _ _ _ _ c.flood_region-f.ensures.count_after c.if-ids-entry.false c.if-entry-eq-NO_SPAN.false c.if-f-eq0.true;
      fact = (c.flood_region-f.ensures.fact.0, omega (arith, c.requires.blank.1.plain), λ _. failed_below _ _ _ _ _ _ _ _ _ _ _ c.flood_region-f.ensures.count_after c.if-ids-entry.false c.requires.blank.1 inside byte c.if-f-eq0.true);
      story_value = tells_flood _ _ _ _ _ _ _ c.if-entry-eq-NO_SPAN.false c.if-ids-entry.false _ c.flood_region-f.ensures.story_value;
    }

pub overflow_add-result : goal.overflow_add-result
overflow_add-result c = omega (arith, c.requires.blank.1.plain)

pub returns : goal.returns
returns c = let inside : c.args.entry < length c.args.area.now = c.requires.span c.if-entry-eq-NO_SPAN.false in
    let byte : get_or c.args.area.now c.args.entry 0 < 256 = omega (arith, c.type_inv.area c.args.entry) in
    record {
      next_after = won_one _ _ _ _ _ _ _ _ _ _ _ c.flood_region-f.ensures.count_after c.if-ids-entry.false c.if-entry-eq-NO_SPAN.false c.if-f-eq0.false;
      fact = (c.flood_region-f.ensures.fact.0, omega (arith, c.requires.blank.1.plain), λ p. won_below _ _ _ _ _ _ _ _ _ _ _ c.flood_region-f.ensures.count_after c.if-ids-entry.false c.requires.blank.1 inside byte c.if-f-eq0.false p);
      story_value = tells_flood _ _ _ _ _ _ _ c.if-entry-eq-NO_SPAN.false c.if-ids-entry.false _ c.flood_region-f.ensures.story_value;
    }
