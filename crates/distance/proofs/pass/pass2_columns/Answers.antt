-- The answers that the check does not find alone.
use Rattle.distance.proofs.Walks.{row_fits, block_fits, last_fits, last_in, columns_down_lem, columns_bottom}
use borrow.Author.Rules.{rules}
use Rattle.distance.proofs.pass.pass2_columns.Goals as goal

pub overflow_mul-first : goal.overflow_mul-first
overflow_mul-first c = search (rules, row_fits)

pub overflow_add-first : goal.overflow_add-first
overflow_add-first c = search (rules, block_fits)

pub overflow_add-first-in-loop-j : goal.overflow_add-first-in-loop-j
overflow_add-first-in-loop-j c = search (rules, last_fits)

pub pass2_cell-requires : goal.pass2_cell-requires
pass2_cell-requires c = (search rules, search (rules, last_in), search rules)

pub loop-j-preserved : goal.loop-j-preserved
loop-j-preserved c = (search rules, search (rules, columns_down_lem), search rules)

pub returns : goal.returns
returns c = (search (rules, columns_bottom), search rules)
