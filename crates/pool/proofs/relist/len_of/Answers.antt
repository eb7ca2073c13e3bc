-- `pool::relist::len_of` meets its contract. Straight line: a part ends at or after its start.
use Rattle.pool.proofs.RelistLaws.{len_is}
use borrow.Author.Rules.{rules}
use Rattle.pool.proofs.relist.len_of.Goals as goal

pub returns : goal.returns
returns c = (search len_is, search rules)
