-- No bits, no other entries.
use Rattle.wipe.proofs.wipe_block.Goals as goal

pub returns-else-bits-ne0 : goal.returns-else-bits-ne0
returns-else-bits-ne0 c = c.bits.ensures c.if-bits-ne0.false
