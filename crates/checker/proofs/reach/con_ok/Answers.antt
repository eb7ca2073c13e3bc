-- `con_ok` is the rule's test of one connection, branch by branch. A way that does not leave the grid ends in it, so the count is there to read.
use Rattle.laws.proofs.Passes.{wide_pos}
use Rattle.checker.proofs.Checks.{names-none, names_out, names_in, across_read, room_in_left, room_in_up}
use borrow.Author.Rules.{rules}
use Rattle.checker.proofs.reach.con_ok.Goals as goal

pub returns-then-k-eq-NO_LAYER : goal.returns-then-k-eq-NO_LAYER
returns-then-k-eq-NO_LAYER c = search (rules, names-none)

pub leaves_grid-requires : goal.leaves_grid-requires
leaves_grid-requires c = (search (rules, wide_pos), search rules, search rules)

pub returns-then-leaves_grid : goal.returns-then-leaves_grid
returns-then-leaves_grid c = search (rules, names_out)

pub cell_across-a-requires : goal.cell_across-a-requires
cell_across-a-requires c = (search rules, search rules, search rules, search (rules, room_in_left), search (rules, room_in_up))

pub bounds-count-a : goal.bounds-count-a
bounds-count-a c = search (rules, across_read)

pub returns : goal.returns
returns c = search (rules, names_in)
