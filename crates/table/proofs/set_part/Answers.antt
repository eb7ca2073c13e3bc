-- `table::set_part` meets its contract. Two stores of two halves each, in four columns of the table: `placed`.
use Rattle.table.proofs.PlaceLaws.{placed}
use Rattle.table.proofs.set_part.Goals as goal

pub returns : goal.returns
returns c = search placed
