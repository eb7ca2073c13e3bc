-- The branch is the rule's own.
use Rattle.refresh.proofs.Entries.{odd_same, odd_other}
use borrow.Author.Rules.{rules}
use Rattle.refresh.proofs.odd_length.Goals as goal

pub returns-then-a-n : goal.returns-then-a-n
returns-then-a-n c = search (rules, odd_same)

pub returns-else-a-n : goal.returns-else-a-n
returns-else-a-n c = search (rules, odd_other)
