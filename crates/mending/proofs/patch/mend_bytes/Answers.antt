-- The answers that the check does not find alone.
use Rattle.mending.proofs.Bytes.{bytes_none, bytes_one}
use borrow.Author.Rules.{rules}
use Rattle.mending.proofs.patch.mend_bytes.Goals as goal

pub loop-k-init : goal.loop-k-init
loop-k-init c = search (rules, bytes_none)

pub loop-k-preserved : goal.loop-k-preserved
loop-k-preserved c = search (rules, bytes_one)
