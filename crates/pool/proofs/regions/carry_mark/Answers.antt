-- `pool::regions::carry_mark` meets its contract. By cases: there is no mark to carry, or two stores in the column of the marks.
-- Both are what `remarked` says.
use Rattle.pool.proofs.MarkLaws.{mark_none, mark_carried}
use borrow.Author.Rules.{rules}
use Rattle.pool.proofs.regions.carry_mark.Goals as goal

pub returns-then-ws-m-ne0 : goal.returns-then-ws-m-ne0
returns-then-ws-m-ne0 c = search (rules, mark_carried)

pub returns-else-ws-m-ne0 : goal.returns-else-ws-m-ne0
returns-else-ws-m-ne0 c = search (rules, mark_none)
