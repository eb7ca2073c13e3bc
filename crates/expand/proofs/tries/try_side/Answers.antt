-- With no neighbour there is none to try; else the neighbour is a span (Trying).
use borrow.Author.Rules.{rules}
use Rattle.expand.proofs.Trying.{board_slot, board_small, moved_none, side_inside, side-none, side_tried}
use Rattle.expand.proofs.tries.try_side.Goals as goal

pub neighbour-side-requires : goal.neighbour-side-requires
neighbour-side-requires c = (search rules, search (rules, board_small), search rules, search (rules, board_slot))

pub returns-then-side-eq-NO_SPAN : goal.returns-then-side-eq-NO_SPAN
returns-then-side-eq-NO_SPAN c = record {
  fact = search (rules, moved_none);
  fact_2 = side-none _ _ _ _ _ _ _ _ _ c.requires.closed.0 c.requires.board.0 c.requires.board.1 c.requires.board.2 c.neighbour-side.ensures _ c.if-side-eq-NO_SPAN.true;
}

pub try_span-requires : goal.try_span-requires
try_span-requires c = record {
  closed = search rules;
  board = (search rules, side_inside _ _ _ _ _ _ _ _ _ c.requires.closed.0 c.requires.board.0 c.requires.board.1 c.requires.board.2 c.neighbour-side.ensures c.if-side-eq-NO_SPAN.false);
}

pub returns : goal.returns
returns c = record {
  fact = c.try_span.ensures.fact;
  fact_2 = side_tried _ _ _ _ _ _ _ _ _ c.requires.closed.0 c.requires.board.0 c.requires.board.1 c.requires.board.2 c.neighbour-side.ensures _ _ c.try_span.ensures.tried;
}
