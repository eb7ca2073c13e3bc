-- The answers that the check does not find alone.
use mathlib.Core.Path.{refl}
use Rattle.paint.proofs.CellLaws.{columns_none, columns_more, columns_done}
use borrow.Author.Rules.{rules}
use Rattle.paint.proofs.paint_row.Goals as goal

pub loop-x-init : goal.loop-x-init
loop-x-init c = (search rules, search rules, refl, search columns_none)

pub loop-x-preserved : goal.loop-x-preserved
loop-x-preserved c = (search rules, search rules, search rules, columns_more _ _ _ _ _ _ _ _ _ _ _ c.loop-x.invariant.0 c.loop-x-test.true c.requires.1 c.loop-x.invariant.3 c.paint_cell.ensures)

pub returns : goal.returns
returns c = search columns_done
