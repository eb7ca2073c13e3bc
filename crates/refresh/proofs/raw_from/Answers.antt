-- The whole list is copied, so pass 2 starts from the pass 1 values.
use Rattle.field.proofs.Passed.{sound_reached}
use Rattle.refresh.proofs.Entries.{whole_low, whole_pass2, low_room}
use borrow.Author.Rules.{rules}
use Rattle.refresh.proofs.raw_from.Goals as goal

pub copy_part-requires : goal.copy_part-requires
copy_part-requires c = (search rules, search (rules, low_room), search rules)

pub pass2-requires : goal.pass2-requires
pass2-requires c = (search (rules, sound_reached), search (rules, whole_low), search rules)

pub returns : goal.returns
returns c = search (rules, whole_pass2)
