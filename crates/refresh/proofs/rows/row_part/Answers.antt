-- The row's spans stand between its first and its last cell that is not empty.
use native.Mathlib.Omega.{arith}
use Rattle.refresh.proofs.Parts.{row_fits, row_counts, row_few, row_none, last_fits, first_fits, first-place, last-place, last_count, row_some}
use borrow.Author.Rules.{rules}
use Rattle.refresh.proofs.rows.row_part.Goals as goal

pub overflow_mul-c : goal.overflow_mul-c
overflow_mul-c c = search (rules, row_fits)

pub first_cell-a-requires : goal.first_cell-a-requires
first_cell-a-requires c = (search (rules, row_counts), search (rules, row_few))

pub last_cell-z-requires : goal.last_cell-z-requires
last_cell-z-requires c = (search (rules, row_counts), search (rules, row_few))

pub returns-then-z-eq0 : goal.returns-then-z-eq0
returns-then-z-eq0 c = search (rules, row_none)

pub overflow_add-last : goal.overflow_add-last
overflow_add-last c = search (rules, last_fits)

pub overflow_add-result : goal.overflow_add-result
overflow_add-result c = search (rules, first_fits)

pub offset_bounds-field-c : goal.offset_bounds-field-c
offset_bounds-field-c c = omega (arith, row_few _ _ _ _ _ _ _ c.requires.0 c.requires.1, c.first_cell-a.ensures.low)

pub bounds-field-c : goal.bounds-field-c
bounds-field-c c = search (rules, first-place)

pub offset_bounds-field-last : goal.offset_bounds-field-last
offset_bounds-field-last c = omega (arith, row_few _ _ _ _ _ _ _ c.requires.0 c.requires.1, c.last_cell-z.ensures.low)

pub bounds-field-last : goal.bounds-field-last
bounds-field-last c = search (rules, last-place)

pub bounds-field-last-2 : goal.bounds-field-last-2
bounds-field-last-2 c = search (rules, last_count)

pub returns : goal.returns
returns c = search (rules, row_some)
