-- `pool::carry::rename_live` meets its contract. By cases on the record's id.
use Rattle.pool.proofs.CarryLaws.{new_dead, new_live}
use Rattle.pool.proofs.carry.rename_live.Goals as goal

pub returns-then-ws-x-eq0-clause-ws_after : goal.returns-then-ws-x-eq0-clause-ws_after
returns-then-ws-x-eq0-clause-ws_after c = search new_dead

pub returns-else-ws-x-eq0-clause-ws_after : goal.returns-else-ws-x-eq0-clause-ws_after
returns-else-ws-x-eq0-clause-ws_after c = search new_live
