-- The answers that the check does not find alone.
use borrow.Author.Rules.{rules}
use Rattle.expand.proofs.Trying.{moved_none, moved_closed, moved_board, moved_then, sides_start, sides_next, sides_end}
use Rattle.expand.proofs.tries.try_around.Goals as goal

pub loop-d-init : goal.loop-d-init
loop-d-init c = (search (rules, moved_none), search (rules, sides_start))

pub try_side-r-requires : goal.try_side-r-requires
try_side-r-requires c = record {
  closed = (search (rules, moved_closed), search rules);
  board = (search (rules, moved_board), search rules, search rules);
}

pub loop-d-preserved : goal.loop-d-preserved
loop-d-preserved c = (search (rules, moved_then), search (rules, sides_next))

pub returns : goal.returns
returns c = record {
  fact = search rules;
  sides = search (rules, sides_end);
}
