-- Bits put together are 0 only where each entry is (Wiped).
use borrow.Author.Rules.{rules}
use Rattle.wipe.proofs.Wiped.{folded}
use Rattle.wipe.proofs.bits.Goals as goal

pub returns : goal.returns
returns c = folded _ _ (search rules)
