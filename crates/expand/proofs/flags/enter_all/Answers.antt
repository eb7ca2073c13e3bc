-- The answers that the check does not find alone.
use borrow.Author.Rules.{rules}
use Rattle.expand.proofs.Walks.{entering_start, entering_at, entering_room, entering_span, entering_next, entering_end}
use Rattle.expand.proofs.flags.enter_all.Goals as goal

pub loop-j-init : goal.loop-j-init
loop-j-init c = search (rules, entering_start)

pub enter_one-requires : goal.enter_one-requires
enter_one-requires c = record {
  i_in_bounds = (search (rules, entering_at), search rules, search rules, search rules);
  ids_in_bounds = (search (rules, entering_room), search (rules, entering_span));
}

pub loop-j-preserved : goal.loop-j-preserved
loop-j-preserved c = search (rules, entering_next)

pub returns : goal.returns
returns c = search (rules, entering_end)
