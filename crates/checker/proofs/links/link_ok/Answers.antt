-- `link_ok` is the rules' test of one connection, branch by branch. The cell across is in the grid, so its count, its index and the answer are there to read.
-- The answer is compared as a layer: the way back leads to cell c, where j is the span that asked and no other.
use Rattle.field.proofs.Places.{room_left, room_up}
use Rattle.checker.proofs.Answered.{link_none, link_small, link_counted, link_indexed, link_over, link_room, link_four, link_fits, link_back}
use borrow.Author.Rules.{rules}
use Rattle.checker.proofs.links.link_ok.Goals as goal

pub returns-then-k-eq-NO_LAYER : goal.returns-then-k-eq-NO_LAYER
returns-then-k-eq-NO_LAYER c = search (rules, link_none)

pub cell_across-a-requires : goal.cell_across-a-requires
cell_across-a-requires c = search (rules, link_small, room_left, room_up)

pub bounds-field-a : goal.bounds-field-a
bounds-field-a c = search (rules, link_counted)

pub returns-then-field-a : goal.returns-then-field-a
returns-then-field-a c = search (rules, link_over)

pub span_at-t-requires : goal.span_at-t-requires
span_at-t-requires c = search (rules, link_indexed)

pub overflow_mul-result : goal.overflow_mul-result
overflow_mul-result c = search (rules, link_four)

pub overflow_add-result-2 : goal.overflow_add-result-2
overflow_add-result-2 c = search (rules, link_fits)

pub bounds-field-t : goal.bounds-field-t
bounds-field-t c = search (rules, link_room)

pub returns : goal.returns
returns c = search (rules, link_back)
