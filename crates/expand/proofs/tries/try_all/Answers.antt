-- The answers that the check does not find alone.
use borrow.Author.Rules.{rules}
use Rattle.expand.proofs.Trying.{moved_none, moved_closed, moved_board, moved_then, entered_start, entered_at, entered_small, entered_entry, entered_next, entered_end}
use Rattle.expand.proofs.tries.try_all.Goals as goal

pub loop-j-init : goal.loop-j-init
loop-j-init c = (search (rules, moved_none), search rules, search (rules, entered_start))

pub try_entry-t-requires : goal.try_entry-t-requires
try_entry-t-requires c = record {
  closed = (search (rules, moved_closed), search rules);
  board = (search (rules, moved_board), search (rules, entered_at), search (rules, entered_small));
  span = search (rules, entered_entry);
}

pub loop-j-preserved : goal.loop-j-preserved
loop-j-preserved c = (search (rules, moved_then), search rules, search (rules, entered_next))

pub returns : goal.returns
returns c = record {
  fact = search rules;
  fact_2 = search (rules, entered_end);
}
