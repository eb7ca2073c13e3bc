-- With two places the answer's numbers are the outcome's; otherwise nothing is written.
use Rattle.stored.proofs.Numbers.{into_other, into_done}
use borrow.Author.Rules.{rules}
use Rattle.stored.proofs.into.pack_into.Goals as goal

pub returns-then-answer-ne-NUMBERS : goal.returns-then-answer-ne-NUMBERS
returns-then-answer-ne-NUMBERS c = search (rules, into_other)

pub returns : goal.returns
returns c = search (rules, into_done)
