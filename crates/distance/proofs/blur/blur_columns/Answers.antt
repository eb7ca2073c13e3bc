-- The answers that the check does not find alone.
use Rattle.rules.specs.Base.{upto}
use Rattle.distance.specs.Walk.{columns_up}
use Rattle.distance.proofs.Walks.{row_fits, block_fits, place_fits, place_in, columns_step, columns_end}
use borrow.Author.Rules.{rules}
use Rattle.distance.proofs.blur.blur_columns.Goals as goal

pub overflow_mul-first : goal.overflow_mul-first
overflow_mul-first c = search (rules, row_fits)

pub overflow_add-first : goal.overflow_add-first
overflow_add-first c = search (rules, block_fits)

pub loop-j-init : goal.loop-j-init
unfolding columns_up upto
loop-j-init c = search rules

pub overflow_add-first-in-loop-j : goal.overflow_add-first-in-loop-j
overflow_add-first-in-loop-j c = search (rules, place_fits)

pub blur_cell-requires : goal.blur_cell-requires
blur_cell-requires c = (search rules, search rules, search rules, search (rules, place_in))

pub loop-j-preserved : goal.loop-j-preserved
loop-j-preserved c = (search rules, search rules, search rules, search (rules, columns_step))

pub returns : goal.returns
returns c = search (rules, columns_end)
