-- `pool::build::join` meets its contract. Two copies and the removal of adjacent duplicates over both: `join_done`.
use Rattle.pool.proofs.PartLaws.{join_done, join_frame}
use Rattle.pool.proofs.build.join.Goals as goal

pub returns-clause-ws_after : goal.returns-clause-ws_after
returns-clause-ws_after c = search join_done

pub returns-clause-frame : goal.returns-clause-frame
returns-clause-frame c = search join_frame
