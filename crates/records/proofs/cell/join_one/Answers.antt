-- `join_one` is the rule's: the span itself, id 0 and flagged ids do not join, another id joins once.
-- The four ways out are the rule's tests, in order.
use Rattle.records.proofs.CellLaws.{border-not, region_yes, join_self, join_not, join_yes}
use Rattle.laws.proofs.Plain.{plain_zero}
use mathlib.Core.Path.{refl}
use lib.ListN.{get_or}
use Rattle.records.proofs.cell.join_one.Goals as goal
use Rattle.records.proofs.cell.join_one.Goals.{then-r-via-then-r, then-r-via-else-r+then-is_border}

pub returns-then-other-span : goal.returns-then-other-span
returns-then-other-span c = record {
  fact = join_self _ _ _ _ _ c.requires.len_in_bounds c.if-other-span.true;
  len_value = λ _. refl;
}

pub returns-then-r : goal.returns-then-r
returns-then-r c = record {
  fact =
      let id = get_or c.args.ids.now c.args.other.0 0 in
      join_not _ _ _ _ _ c.requires.len_in_bounds c.if-other-span.false
      (elim c.then-r.branch [
        | then-r-via-then-r w ↦ plain_zero id w.if-r.true
        | then-r-via-else-r+then-is_border w ↦ border-not id _ w.is_border.ensures w.if-is_border.true
      ]);
  len_value = λ _. refl;
}

pub add_unique_floor_region-requires : goal.add_unique_floor_region-requires
add_unique_floor_region-requires c = c.requires.len_in_bounds_2 c.if-other-span.false

pub returns : goal.returns
returns c = let y = region_yes _ _ c.is_border.ensures c.if-r.false c.if-is_border.false in
    record {
      fact = join_yes _ _ _ _ _ c.requires.len_in_bounds c.if-other-span.false y _ _ c.add_unique_floor_region.ensures;
      len_value = λ z. absurd (c.if-other-span.false z);
    }
