-- `follow` is the rule `near` of every field and span that fit what is lent: their connection in direction d is the one read.
-- A connection that is not none leads into the grid (refusal 5), so the cell across has an index.
use Rattle.field.proofs.Places.{leaf_some, leaf_there, leaf_left, leaf_up, leaf_in, leaf_narrow, leaf_small}
use borrow.Author.Rules.{rules}
use Rattle.field.proofs.place.follow.Goals as goal

pub cell_across-cell-requires : goal.cell_across-cell-requires
cell_across-cell-requires c = (search (rules, leaf_narrow), search (rules, leaf_small), search rules, search (rules, leaf_left), search (rules, leaf_up))

pub span_at-span-requires : goal.span_at-span-requires
span_at-span-requires c = search (rules, leaf_in)

pub returns : goal.returns
returns c = (search (rules, leaf_some), search rules, search (rules, leaf_some, leaf_there))
