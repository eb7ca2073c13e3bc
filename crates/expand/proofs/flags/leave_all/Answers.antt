-- The answers that the check does not find alone.
use borrow.Author.Rules.{rules}
use Rattle.expand.proofs.Walks.{leaving_start, leaving_room, leaving_span, leaving_next, leaving_end}
use Rattle.expand.proofs.flags.leave_all.Goals as goal

pub loop-j-init : goal.loop-j-init
loop-j-init c = search (rules, leaving_start)

pub leave_one-requires : goal.leave_one-requires
leave_one-requires c = record {
  i_lt_flags = (search rules, search rules, search rules);
  ids_in_bounds = (search (rules, leaving_room), search (rules, leaving_span));
}

pub loop-j-preserved : goal.loop-j-preserved
loop-j-preserved c = search (rules, leaving_next)

pub returns : goal.returns
returns c = search (rules, leaving_end)
