-- A block without spans passes, since each of its cells has none.
use Rattle.checker.proofs.Answered.{block_row_fits, block_fits, block_in, columns_none}
use borrow.Author.Rules.{rules}
use Rattle.checker.proofs.links.block_ok.Goals as goal

pub overflow_mul-field : goal.overflow_mul-field
overflow_mul-field c = search (rules, block_row_fits)

pub overflow_add-field : goal.overflow_add-field
overflow_add-field c = search (rules, block_fits)

pub is_empty-requires : goal.is_empty-requires
is_empty-requires c = search (rules, block_in)

pub returns-then-is_empty : goal.returns-then-is_empty
returns-then-is_empty c = search (rules, columns_none)
