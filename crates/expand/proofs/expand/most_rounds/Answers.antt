-- The rule's number of rounds: at level 0 one for each entry and one more, which is no limit.
use borrow.Author.Rules.{rules}
use Rattle.expand.proofs.Ends.{most_free, most_eight}
use Rattle.expand.proofs.expand.most_rounds.Goals as goal

pub returns-then-level-eq0 : goal.returns-then-level-eq0
returns-then-level-eq0 c = search (rules, most_free)

pub returns-else-level-eq0 : goal.returns-else-level-eq0
returns-else-level-eq0 c = search (rules, most_eight)
