-- A block without spans stays as it is, since each of its cells has none.
use Rattle.distance.proofs.Walks.{row_fits, block_fits, block_in, columns_none}
use Rattle.distance.proofs.Bounds.{columns_empty}
use borrow.Author.Rules.{rules}
use Rattle.distance.proofs.pass.pass1_block.Goals as goal

pub overflow_mul-field : goal.overflow_mul-field
overflow_mul-field c = search (rules, row_fits)

pub overflow_add-field : goal.overflow_add-field
overflow_add-field c = search (rules, block_fits)

pub is_empty-requires : goal.is_empty-requires
is_empty-requires c = search (rules, block_in)

pub returns-then-is_empty : goal.returns-then-is_empty
returns-then-is_empty c = (search (rules, columns_none), search (rules, columns_empty))
