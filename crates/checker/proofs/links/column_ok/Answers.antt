-- A cell's place by its column and row; the product and the sum are below the number of cells.
use Rattle.checker.proofs.Answered.{column_in, row_fits, column_fits}
use borrow.Author.Rules.{rules}
use Rattle.checker.proofs.links.column_ok.Goals as goal

pub overflow_mul-field : goal.overflow_mul-field
overflow_mul-field c = search (rules, row_fits)

pub overflow_add-field : goal.overflow_add-field
overflow_add-field c = search (rules, column_fits)

pub cell_ok-requires : goal.cell_ok-requires
cell_ok-requires c = (search rules, search rules, search rules, search (rules, column_in))
