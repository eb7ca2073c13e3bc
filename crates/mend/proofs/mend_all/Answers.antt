-- The first walk has no room and leaves the lists as they were, with the number of changes; the second has room for all, and is the rule.
use mathlib.Core.Path.{refl}
use Rattle.mend.proofs.Ends.{ready_none, ready_all, ends_full, ends_made, made_small}
use borrow.Author.Rules.{rules}
use Rattle.mend.proofs.mend_all.Goals as goal

pub mend_cells-requires : goal.mend_cells-requires
mend_cells-requires c = search ready_none

pub returns-then-room-mend_cells : goal.returns-then-room-mend_cells
returns-then-room-mend_cells c = search ends_full

pub mend_cells-made-requires : goal.mend_cells-made-requires
mend_cells-made-requires c = ready_all _ _ _ _ _ _ c.requires _ _ _ _ c.mend_cells.ensures _ refl

pub overflow_cast-result : goal.overflow_cast-result
overflow_cast-result c = search (rules, made_small)

pub returns : goal.returns
returns c = search ends_made
