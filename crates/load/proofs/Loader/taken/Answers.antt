-- `Loader::taken` meets its contract: the kind of the record under way decides which function takes the byte.
-- What `cell_byte` and `span_byte` promise for any other lists is taken at those that are lent.
use Rattle.load.proofs.Ways.{taken_kind, taken-header, taken-cell, taken-span, taken-after}
use borrow.Author.Rules.{rules}
use Rattle.load.proofs.Loader.taken.Goals as goal

pub returns-in-0 : goal.returns-in-0
returns-in-0 c = search taken_kind

pub returns-in-1 : goal.returns-in-1
returns-in-1 c = search (rules, taken-header)

pub returns-in-2 : goal.returns-in-2
returns-in-2 c = taken-cell _ _ _ _ _ _ _ (search rules) (search rules) (search rules) (c.cell_byte.ensures _ _)

pub returns-in-3 : goal.returns-in-3
returns-in-3 c = taken-span _ _ _ _ _ _ _ (search rules) (search rules) (search rules) (search rules) (c.span_byte.ensures _ _)

pub returns-in_default : goal.returns-in_default
returns-in_default c = search taken-after
