-- Four rectangles painted one over the other, clipped to the field, are the rule's painting.
-- Without a border the ids stay 0.
use Rattle.paint.proofs.BorderLaws.{border_done, border-none, first-none, first_some, rows_all, rows_within}
use mathlib.Core.Path.{refl}
use native.Mathlib.Omega.{arith}
use borrow.Author.Rules.{rules}
use Rattle.paint.proofs.paint_border.Goals as goal

pub returns-then-border_size-eq0 : goal.returns-then-border_size-eq0
returns-then-border_size-eq0 c = record {
  ids_after = λ F a b d e. border-none _ _ _ c.if-border_size-eq0.true c.requires.2 _ _ _ F a b d e;
  value = first-none _ c.if-border_size-eq0.true;
}

pub paint_rect_region-requires : goal.paint_rect_region-requires
paint_rect_region-requires c = (search rules, search rules, search rules, search rows_all, search rules, search rules)

pub paint_rect_region-requires-2 : goal.paint_rect_region-requires-2
paint_rect_region-requires-2 c = (search rules, search rules, search rules, search rows_all, search rules, search rules)

pub paint_rect_region-requires-3 : goal.paint_rect_region-requires-3
paint_rect_region-requires-3 c = let p = c.requires in
    (search rules, search rules, search rules, rows_within _ _ _ _ _ p.0 c.min-border_height.ensures, search rules, p.3)

pub paint_rect_region-requires-4 : goal.paint_rect_region-requires-4
paint_rect_region-requires-4 c = let p = c.requires in
    (search rules, search rules, search rules, rows_all _ _ _ p.0, omega (arith, c.paint_rect_region-3.auto.ids, c.paint_rect_region-2.auto.ids, c.paint_rect_region.auto.ids, p.1), p.3)

pub returns : goal.returns
returns c = let p = c.requires in
    record {
      ids_after = border_done _ _ _ _ _ _ p.3 p.0 _ refl _ _ c.min-border_width.ensures c.min-border_height.ensures _ _ _ _ _ p.2 c.paint_rect_region.ensures c.paint_rect_region-2.ensures c.paint_rect_region-3.ensures c.paint_rect_region-4.ensures c.if-border_size-eq0.false;
      value = first_some _ c.if-border_size-eq0.false;
    }
