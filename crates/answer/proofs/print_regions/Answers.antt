-- `answer::print_regions` meets its contract: the two arms are the two cases of the region entry's outcome.
use Rattle.answer.proofs.Printed.{listable, second_refused, second_done}
use borrow.Author.Rules.{rules}
use Rattle.answer.proofs.print_regions.Goals as goal

pub write_listing-requires : goal.write_listing-requires
write_listing-requires c = listable _ _ _ _ _ _ _ _ _ _ _ _ _ _ c.build_regions.result _ c.requires c.build_regions.ensures.fact c.in-Ok.is c.build_regions.auto.ids

pub returns-in-Err : goal.returns-in-Err
returns-in-Err c = search (rules, second_refused)

pub returns-in-Ok : goal.returns-in-Ok
returns-in-Ok c = search (rules, second_done)
