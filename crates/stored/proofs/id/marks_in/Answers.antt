-- The less of the two numbers.
use Rattle.stored.proofs.Halving.{marks_least}
use borrow.Author.Rules.{rules}
use Rattle.stored.proofs.id.marks_in.Goals as goal

pub returns : goal.returns
returns c = (search (rules, marks_least), search rules, search rules)
