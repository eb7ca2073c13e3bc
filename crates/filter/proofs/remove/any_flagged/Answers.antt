-- The answers that the check does not find alone.
use Rattle.filter.proofs.RemoveLaws.{next_below, flag_start, flag_here, flag_next, flag_none}
use borrow.Author.Rules.{rules}
use Rattle.filter.proofs.remove.any_flagged.Goals as goal

pub loop-k-init : goal.loop-k-init
loop-k-init c = (search rules, search flag_start)

pub list_of-requires : goal.list_of-requires
list_of-requires c = (search rules, search next_below)

pub returns-then-lists_flagged : goal.returns-then-lists_flagged
returns-then-lists_flagged c = search flag_here

pub loop-k-preserved : goal.loop-k-preserved
loop-k-preserved c = (search rules, search flag_next)

pub returns : goal.returns
returns c = search flag_none
