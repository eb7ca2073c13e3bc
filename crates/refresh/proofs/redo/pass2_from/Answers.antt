-- The row's part is its pass 1 values before pass 2 goes through it.
use Rattle.field.proofs.Passed.{sound_reached}
use Rattle.refresh.proofs.Turns.{part_order, part_low, from_row, from_low}
use borrow.Author.Rules.{rules}
use Rattle.refresh.proofs.redo.pass2_from.Goals as goal

pub copy_part-requires : goal.copy_part-requires
copy_part-requires c = (search (rules, part_order), search (rules, part_low), search (rules, part_low))

pub pass2_row-requires : goal.pass2_row-requires
pass2_row-requires c = (search (rules, sound_reached), search rules, search (rules, from_low))

pub returns : goal.returns
returns c = (search (rules, from_row), search rules)
