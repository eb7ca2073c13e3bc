-- Where a span of the block is open all are sorted, one by one.
-- Where none is, each is owned or its stack is past the eight, so the sorted stacks are as they were.
use Rattle.levels.proofs.BlockLaws.{moved_over}
use Rattle.levels.proofs.sort_block.Goals as goal

pub returns-else-any_open : goal.returns-else-any_open
returns-else-any_open c = search moved_over
