-- The answers that the check does not find alone.
use Rattle.mend.proofs.WalkLaws.{ready_cell, walk_start, walk-cell, walk_all}
use borrow.Author.Rules.{rules}
use Rattle.mend.proofs.mend_cells.Goals as goal

pub loop-c-init : goal.loop-c-init
loop-c-init c = (search rules, search rules, search rules, search rules, search (rules, walk_start))

pub mend_cell-found-requires : goal.mend_cell-found-requires
mend_cell-found-requires c = (search ready_cell, search rules)

pub loop-c-preserved : goal.loop-c-preserved
loop-c-preserved c = (search rules, search rules, search rules, search rules, search (rules, walk-cell))

pub returns : goal.returns
returns c = search walk_all
