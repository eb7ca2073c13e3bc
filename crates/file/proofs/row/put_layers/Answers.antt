-- The answers that the check does not find alone.
use native.Mathlib.Omega.{arith}
use Rattle.file.proofs.Joins.{layers_first, layers_room, layers_next, layers_done, leader_room, led_room, led_wrote}
use Rattle.file.proofs.row.put_layers.Goals as goal

pub loop-j-init : goal.loop-j-init
loop-j-init c = search layers_first

pub put_between-next-requires : goal.put_between-next-requires
put_between-next-requires c = leader_room _ _ _ _ _ (layers_room _ _ _ _ _ _ _ _ c.loop-j.invariant (omega arith))

pub put_decimal-next-requires : goal.put_decimal-next-requires
put_decimal-next-requires c = led_room _ _ _ _ _ (layers_room _ _ _ _ _ _ _ _ c.loop-j.invariant (omega arith)) _ _ c.put_between-next.ensures

pub loop-j-preserved : goal.loop-j-preserved
loop-j-preserved c =
    let h = layers_room _ _ _ _ _ _ _ _ c.loop-j.invariant (omega arith) in
    layers_next _ _ _ _ _ _ _ _ c.loop-j.invariant (omega arith) _ _ (led_wrote _ _ _ _ _ h _ _ c.put_between-next.ensures _ _ c.put_decimal-next.ensures)

pub returns : goal.returns
returns c = search layers_done
