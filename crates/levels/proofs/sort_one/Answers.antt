-- Span i comes last of those sorted so far, so it is one more entry of its stack, or the sorted stacks are as they were.
-- There is room: the stacks have at most i entries together.
use borrow.Author.Rules.{rules}
use Rattle.levels.proofs.SortLaws.{moved_skip_area, moved_skip_id, moved_skip_high, moved_put, sort_room}
use Rattle.levels.proofs.sort_one.Goals as goal

pub returns-then-ids-i-ne0 : goal.returns-then-ids-i-ne0
returns-then-ids-i-ne0 c = search (rules, moved_skip_id)

pub returns-then-k-ge-STACKS : goal.returns-then-k-ge-STACKS
returns-then-k-ge-STACKS c = search (rules, moved_skip_high)

pub returns-then-area-i-eq0 : goal.returns-then-area-i-eq0
returns-then-area-i-eq0 c = search (rules, moved_skip_area)

pub push_level-requires : goal.push_level-requires
push_level-requires c = (search rules, search rules, search rules, search sort_room)

pub returns : goal.returns
returns c = search moved_put
