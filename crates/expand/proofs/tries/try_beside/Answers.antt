-- The answers that the check does not find alone.
use borrow.Author.Rules.{rules}
use Rattle.expand.proofs.Trying.{moved_none, moved_closed, moved_board, moved_then, beside_start, beside_span, beside_next, beside_end}
use Rattle.expand.proofs.tries.try_beside.Goals as goal

pub loop-i-init : goal.loop-i-init
loop-i-init c = (search (rules, moved_none), search rules, search rules, search (rules, beside_start))

pub try_around-t-requires : goal.try_around-t-requires
try_around-t-requires c = record {
  closed = (search (rules, moved_closed), search rules);
  board = (search (rules, moved_board), search (rules, beside_span));
}

pub loop-i-preserved : goal.loop-i-preserved
loop-i-preserved c = (search (rules, moved_then), search rules, search rules, search (rules, beside_next))

pub returns : goal.returns
returns c = record {
  fact = search rules;
  beside = search (rules, beside_end);
}
