-- `row::put_between` meets its contract: nothing, or one byte.
use Rattle.file.proofs.Joins.{none_wrote, byte_room, byte_wrote}
use Rattle.file.proofs.row.put_between.Goals as goal

pub returns-then-j-eq0 : goal.returns-then-j-eq0
returns-then-j-eq0 c = search none_wrote

pub put-requires : goal.put-requires
put-requires c = search byte_room

pub returns-else-j-eq0 : goal.returns-else-j-eq0
returns-else-j-eq0 c = search byte_wrote
