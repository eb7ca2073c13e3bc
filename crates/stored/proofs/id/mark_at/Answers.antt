-- The number of four bytes in the kind 7 record.
use Rattle.stored.proofs.Halving.{mark_is}
use borrow.Author.Rules.{rules}
use Rattle.stored.proofs.id.mark_at.Goals as goal

pub returns : goal.returns
returns c = (search (rules, mark_is), search rules)
