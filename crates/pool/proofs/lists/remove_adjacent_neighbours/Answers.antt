-- `pool::lists::remove_adjacent_neighbours` meets its contract. Two calls: the runs, and then the last entry against the first; `tidy_is` says that this is the rule.
use Rattle.pool.proofs.ListLaws.{tidy-joins}
use borrow.Author.Rules.{rules}
use Rattle.pool.proofs.lists.remove_adjacent_neighbours.Goals as goal

pub returns : goal.returns
returns c = (search tidy-joins, search rules)
