-- The answers that the check does not find alone.
use Rattle.file.proofs.Joins.{row_first, cell_room, cell_next, row_room, row_done, leader_room, led_room, led_wrote}
use Rattle.file.proofs.row.Grid.put_row.Goals as goal

pub loop-x-init : goal.loop-x-init
loop-x-init c = search row_first

pub put_between-next-requires : goal.put_between-next-requires
put_between-next-requires c = leader_room _ _ _ _ _ (cell_room _ _ _ _ _ _ _ _ _ _ _ c.loop-x.invariant c.loop-x-test.true)

pub put_cell-next-requires-clause-room : goal.put_cell-next-requires-clause-room
put_cell-next-requires-clause-room c = led_room _ _ _ _ _ (cell_room _ _ _ _ _ _ _ _ _ _ _ c.loop-x.invariant c.loop-x-test.true) _ _ c.put_between-next.ensures

pub loop-x-preserved : goal.loop-x-preserved
loop-x-preserved c =
    let h = cell_room _ _ _ _ _ _ _ _ _ _ _ c.loop-x.invariant c.loop-x-test.true in
    cell_next _ _ _ _ _ _ _ _ _ _ _ c.loop-x.invariant c.loop-x-test.true _ _ (led_wrote _ _ _ _ _ h _ _ c.put_between-next.ensures _ _ c.put_cell-next.ensures)

pub put-requires : goal.put-requires
put-requires c = search row_room

pub returns : goal.returns
returns c = search row_done
