-- Found before, or this one is open.
-- The code's connectives, which always take both sides, have the values of the rule's.
use Rattle.levels.proofs.BlockLaws.{and-or}
use borrow.Author.Rules.{rules}
use Rattle.levels.proofs.or_open.Goals as goal

pub returns : goal.returns
returns c = search (rules, and-or)
