-- What was stored for the row is kept before the row is redone, and compared with it afterwards.
use Rattle.refresh.proofs.Turns.{part_order, part_in, part_low, part_kept, redo_same, redo_kept}
use borrow.Author.Rules.{rules}
use Rattle.refresh.proofs.redo.redo2_row.Goals as goal

pub copy_part-requires : goal.copy_part-requires
copy_part-requires c = (search (rules, part_order), search (rules, part_low), search (rules, part_in))

pub same_part-requires : goal.same_part-requires
same_part-requires c = (search (rules, part_order), search (rules, part_kept), search (rules, part_low))

pub returns : goal.returns
returns c = (search rules, redo_same _ _ _ _ c.row_part-part.ensures c.requires.0 _ _ _ c.requires.3 c.requires.4 c.copy_part.ensures _ _ c.pass2_from.ensures.1 c.same_part.ensures, search rules, search (rules, redo_kept))
