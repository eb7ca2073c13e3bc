-- The answers that the check does not find alone.
use mathlib.Core.Path.{refl}
use Rattle.paint.proofs.CellLaws.{row_in, rows_none, rows_more, rows_done}
use borrow.Author.Rules.{rules}
use Rattle.paint.proofs.paint_rect_region.Goals as goal

pub loop-z-init : goal.loop-z-init
loop-z-init c = (search rules, search rules, refl, search rows_none)

pub paint_row-requires : goal.paint_row-requires
paint_row-requires c = (search rules, search rules, search row_in, search rules, search rules)

pub loop-z-preserved : goal.loop-z-preserved
loop-z-preserved c = (search rules, search rules, search rules, search rows_more)

pub returns : goal.returns
returns c = search rows_done
