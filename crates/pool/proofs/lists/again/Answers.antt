-- `pool::lists::again` meets its contract. Past the end there is no next entry.
use Rattle.pool.proofs.ListLaws.{again_past, again-at}
use borrow.Author.Rules.{rules}
use Rattle.pool.proofs.lists.again.Goals as goal

pub returns-then-i-l : goal.returns-then-i-l
returns-then-i-l c = search (rules, again-at)

pub returns-else-i-l : goal.returns-else-i-l
returns-else-i-l c = search (rules, again_past)
