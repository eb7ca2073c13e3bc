-- The answers that the check does not find alone.
use Rattle.file.proofs.Joins.{rows_first, rows_room, rows_next, rows_done}
use borrow.Author.Rules.{rules}
use Rattle.file.proofs.row.Grid.put_rows.Goals as goal

pub loop-z-init : goal.loop-z-init
loop-z-init c = search rows_first

pub put_row-next-requires : goal.put_row-next-requires
put_row-next-requires c = record {
  room = search rows_room;
  z_in_bounds = search rules;
}

pub loop-z-preserved : goal.loop-z-preserved
loop-z-preserved c = search rows_next

pub returns : goal.returns
returns c = search rows_done
