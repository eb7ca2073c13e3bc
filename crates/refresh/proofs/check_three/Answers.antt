-- The list of the two lengths is wrong exactly where that of the three is.
use Rattle.refresh.proofs.Entries.{three_checked}
use borrow.Author.Rules.{rules}
use Rattle.refresh.proofs.check_three.Goals as goal

pub returns : goal.returns
returns c = search (rules, three_checked)
