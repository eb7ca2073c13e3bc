-- `numbering::number_one` meets its contract. By cases: id 0, an id that has its number, a new one.
use Rattle.numbering.proofs.NumberLaws.{numbers_none, numbers_old, numbers_new}
use borrow.Author.Rules.{rules}
use Rattle.numbering.proofs.number_one.Goals as goal
use Rattle.numbering.proofs.number_one.Goals.{then-r-eq0-via-then-r-eq0, then-r-eq0-via-else-r-eq0+then-ws-numbers-ne0}

pub returns-then-r-eq0-clause-by_index : goal.returns-then-r-eq0-clause-by_index
returns-then-r-eq0-clause-by_index c = elim c.then-r-eq0.branch [
  | then-r-eq0-via-then-r-eq0 w ↦ search (rules, numbers_none)
  | then-r-eq0-via-else-r-eq0+then-ws-numbers-ne0 w ↦ search (rules, numbers_old)
]

pub returns-clause-by_index : goal.returns-clause-by_index
returns-clause-by_index c = search (rules, numbers_new)
