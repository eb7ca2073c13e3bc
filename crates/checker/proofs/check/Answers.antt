-- Each branch gives the number of the first test that fails, as the rule does; what passed before it is what the next test requires.
use Rattle.checker.proofs.Refused.{refused_w, refused_h, refused_2, refused_3, same_cells, few_cells, refused_4, checked_cells, refused_5, refused_none, refused_6}
use borrow.Author.Rules.{rules}
use Rattle.checker.proofs.check.Goals as goal

pub returns-then-field-gt-MOST_CELLS_A_SIDE : goal.returns-then-field-gt-MOST_CELLS_A_SIDE
returns-then-field-gt-MOST_CELLS_A_SIDE c = search (rules, refused_w)

pub returns-then-field-gt-MOST_CELLS_A_SIDE-2 : goal.returns-then-field-gt-MOST_CELLS_A_SIDE-2
returns-then-field-gt-MOST_CELLS_A_SIDE-2 c = search (rules, refused_h)

pub returns-then-field-gt-MOST_SPANS : goal.returns-then-field-gt-MOST_SPANS
returns-then-field-gt-MOST_SPANS c = search (rules, refused_2)

pub returns-then-not-lengths_ok : goal.returns-then-not-lengths_ok
returns-then-not-lengths_ok c = search (rules, refused_3)

pub cells_ok-requires : goal.cells_ok-requires
cells_ok-requires c = (same_cells _ _ _ _ _ _ _ _ c.if-field-gt-MOST_CELLS_A_SIDE.false c.if-field-gt-MOST_CELLS_A_SIDE-2.false c.if-field-gt-MOST_SPANS.false _ c.lengths_ok.ensures c.if-not-lengths_ok.false, few_cells _ _ _ _ _ _ _ _ c.if-field-gt-MOST_CELLS_A_SIDE.false c.if-field-gt-MOST_CELLS_A_SIDE-2.false c.if-field-gt-MOST_SPANS.false _ c.lengths_ok.ensures c.if-not-lengths_ok.false)

pub returns-then-not-cells_ok : goal.returns-then-not-cells_ok
returns-then-not-cells_ok c = search (rules, refused_4)

pub links_ok-requires : goal.links_ok-requires
links_ok-requires c = checked_cells _ _ _ _ _ _ _ _ c.if-field-gt-MOST_CELLS_A_SIDE.false c.if-field-gt-MOST_CELLS_A_SIDE-2.false c.if-field-gt-MOST_SPANS.false _ c.lengths_ok.ensures c.if-not-lengths_ok.false _ c.cells_ok.ensures c.if-not-cells_ok.false

pub returns-then-links_ok : goal.returns-then-links_ok
returns-then-links_ok c = search (rules, refused_none)

pub reach_ok-requires : goal.reach_ok-requires
reach_ok-requires c = checked_cells _ _ _ _ _ _ _ _ c.if-field-gt-MOST_CELLS_A_SIDE.false c.if-field-gt-MOST_CELLS_A_SIDE-2.false c.if-field-gt-MOST_SPANS.false _ c.lengths_ok.ensures c.if-not-lengths_ok.false _ c.cells_ok.ensures c.if-not-cells_ok.false

pub returns-then-not-reach_ok : goal.returns-then-not-reach_ok
returns-then-not-reach_ok c = search (rules, refused_5)

pub returns : goal.returns
returns c = search (rules, refused_6)
