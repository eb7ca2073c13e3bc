-- The entry's answer is the outcome, and its numbers are taken apart unchanged; so what it promises of rooms holds of them.
use Rattle.gussetraft.proofs.PlainRooms.{gives_rooms, leaves-plain_rooms}
use Rattle.gussetraft.proofs.roomids.gussetraft_build_rooms.Goals as goal

pub returns : goal.returns
returns c = record {
  fact = rw (← c.lend-field.ensures) (search gives_rooms);
  rooms = rw (← c.lend-field.ensures) (search leaves-plain_rooms);
}
