-- `add_span` is the rule's `add_span`: ids 0 and flagged ids pass, any other is counted.
-- The three ways out are the rule's test for a plain id.
use lib.ListN.{get_or}
use Rattle.laws.proofs.Plain.{plain_zero}
use Rattle.records.proofs.CellLaws.{border-not, region_yes}
use Rattle.records.proofs.BuildLaws.{added_none}
use Rattle.records.proofs.build.add_span.Goals as goal
use Rattle.records.proofs.build.add_span.Goals.{then-r-via-then-r, then-r-via-else-r+then-is_border}

pub returns-then-r : goal.returns-then-r
returns-then-r c =
    let id = get_or c.args.ids.now c.args.span.0 0 in
    added_none _ _ _ _ _ _ _ _ c.requires.standing
    (elim c.then-r.branch [
      | then-r-via-then-r w ↦ plain_zero id w.if-r.true
      | then-r-via-else-r+then-is_border w ↦ border-not id _ w.is_border.ensures w.if-is_border.true
    ])

pub count_span-requires : goal.count_span-requires
count_span-requires c = record {
  standing = (c.requires.standing, region_yes _ _ c.is_border.ensures c.if-r.false c.if-is_border.false);
  knowing_from = c.requires.knowing_from;
}
