-- The answers that the check does not find alone.
use Rattle.pool.proofs.PartLaws.{copy_frame, copy_go, copy_done}
use Rattle.pool.proofs.build.copy.Goals as goal

pub loop-k-preserved : goal.loop-k-preserved
loop-k-preserved c = (search copy_frame, search copy_go)

pub returns-clause-ws_after : goal.returns-clause-ws_after
returns-clause-ws_after c = search copy_done
