-- `pool::build::replace_neighbour` meets its contract. By cases on whether old is listed; the part is lent twice.
use Rattle.pool.proofs.PartLaws.{rename_none, rename_some, rename_frame}
use Rattle.pool.proofs.build.replace_neighbour.Goals as goal

pub returns-then-k-e-clause-ws_after : goal.returns-then-k-e-clause-ws_after
returns-then-k-e-clause-ws_after c = search rename_none

pub returns-clause-ws_after : goal.returns-clause-ws_after
returns-clause-ws_after c = search rename_some

pub returns-clause-frame : goal.returns-clause-frame
returns-clause-frame c = search rename_frame
