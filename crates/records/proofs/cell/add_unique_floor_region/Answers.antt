-- `add_unique_floor_region` leaves the rule's `once` of the list: an id that is found is not listed again.
-- Another is stored at the list's end, where there is room.
use Rattle.records.proofs.CellLaws.{once_there, once_new}
use borrow.Author.Rules.{rules}
use Rattle.records.proofs.cell.add_unique_floor_region.Goals as goal

pub returns-then-p-len : goal.returns-then-p-len
returns-then-p-len c = search (rules, once_there)

pub returns : goal.returns
returns c = search (rules, once_new)
