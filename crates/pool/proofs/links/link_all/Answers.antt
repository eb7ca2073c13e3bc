-- The answers that the check does not find alone.
use Rattle.pool.proofs.LinkLaws.{linking_none, linking_go, linking_all, linking_kept}
use Rattle.pool.proofs.links.link_all.Goals as goal

pub loop-q-init : goal.loop-q-init
loop-q-init c = search linking_none

pub loop-q-preserved : goal.loop-q-preserved
loop-q-preserved c = search linking_go

pub returns : goal.returns
returns c = record {
  linked = search linking_all;
  frame = search linking_kept;
}
