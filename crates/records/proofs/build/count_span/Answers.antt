-- A span of a region is counted: what it takes from its cell and then its contour are, together, the rule's `counted`.
-- The records lie before the table, so the net stays.
use mathlib.Core.Path.{refl}
use Rattle.records.proofs.BuildLaws.{own_below, own_some, reach_then, added-one}
use Rattle.records.proofs.build.count_span.Goals as goal

pub add_cell-requires : goal.add_cell-requires
add_cell-requires c = record {
  keeping = (c.requires.standing.0.keeping, c.requires.standing.0.within);
  r_value = (refl, c.requires.standing.1);
  knowing_from = c.requires.knowing_from;
}

pub add_contour-requires : goal.add_contour-requires
add_contour-requires c = record {
  reach = reach_then _ _ _ _ _ _ _ _ c.requires.standing.0 c.requires.standing.1 _ refl _ c.add_cell.ensures;
  keeping = c.add_cell.ensures.keeping;
  r_value = (refl, own_below _ _ _ _ _ _ _ _ c.requires.standing.0 c.requires.standing.1 _ refl, own_some _ _ _ _ _ _ _ _ c.requires.standing.0 c.requires.standing.1 _ refl);
}

pub returns : goal.returns
returns c = added-one _ _ _ _ _ _ _ _ c.requires.standing.0 c.requires.standing.1 _ refl _ c.add_cell.ensures _ _ c.add_contour.ensures
