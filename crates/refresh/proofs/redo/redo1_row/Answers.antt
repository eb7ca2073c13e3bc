-- What was stored for the row is kept before the row is redone, and compared with it afterwards.
use Rattle.refresh.proofs.Turns.{part_before}
use Rattle.field.proofs.Passed.{sound_reached}
use Rattle.distance.proofs.Bounds.{low_before}
use Rattle.refresh.proofs.Turns.{part_order, part_in, part_low, part_kept, redo_same, redo_kept, pass1_low}
use borrow.Author.Rules.{rules}
use Rattle.refresh.proofs.redo.redo1_row.Goals as goal

pub copy_part-requires : goal.copy_part-requires
copy_part-requires c = (search (rules, part_order), search (rules, part_low), search (rules, part_in))

pub pass1_row-requires : goal.pass1_row-requires
pass1_row-requires c = (search (rules, sound_reached), search rules, search (rules, low_before))

pub same_part-requires : goal.same_part-requires
same_part-requires c = (search (rules, part_order), search (rules, part_kept), search (rules, part_before))

pub returns : goal.returns
returns c = (search rules, redo_same _ _ _ _ c.row_part-part.ensures c.requires.0 _ _ _ c.requires.2 c.requires.3 c.copy_part.ensures _ _ (pass1_low _ c.requires.0 _ _ _ c.requires.2 c.pass1_row.ensures.0 c.pass1_row.ensures.1) c.same_part.ensures, search (rules, pass1_low), search (rules, redo_kept))
