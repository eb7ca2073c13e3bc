-- With eight places the answer's numbers are the outcome's; otherwise nothing is written.
use Rattle.refresh.proofs.Numbers.{into_other, into_done}
use borrow.Author.Rules.{rules}
use Rattle.refresh.proofs.into.refresh_into.Goals as goal

pub returns-then-answer-ne-NUMBERS : goal.returns-then-answer-ne-NUMBERS
returns-then-answer-ne-NUMBERS c = search (rules, into_other)

pub returns : goal.returns
returns c = search (rules, into_done)
