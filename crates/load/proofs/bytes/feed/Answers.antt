-- The answers that the check does not find alone.
use Rattle.load.proofs.Ways.{feed_next, feed_done}
use Rattle.load.proofs.bytes.feed.Goals as goal

pub loop-b-preserved : goal.loop-b-preserved
loop-b-preserved c = search feed_next

pub returns : goal.returns
returns c = search feed_done
