-- `put::put_named` meets its contract: a text written after another is both written.
use Rattle.file.specs.Shown.{named}
use Rattle.file.proofs.Writing.{room_first, room_then, wrote_then}
use Rattle.file.proofs.put.put_named.Goals as goal

pub put_all-next-requires : goal.put_all-next-requires
unfolding named
put_all-next-requires c = search room_first

pub put_decimal-requires : goal.put_decimal-requires
unfolding named
put_decimal-requires c = search room_then

pub returns : goal.returns
unfolding named
returns c = search wrote_then
