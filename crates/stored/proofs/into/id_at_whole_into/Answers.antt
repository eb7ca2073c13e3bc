-- With three places the answer's numbers are the outcome's; otherwise nothing is written.
use Rattle.stored.proofs.IdCalls.{id_other, id_done}
use borrow.Author.Rules.{rules}
use Rattle.stored.proofs.into.id_at_whole_into.Goals as goal

pub returns-then-answer-ne-ID_NUMBERS : goal.returns-then-answer-ne-ID_NUMBERS
returns-then-answer-ne-ID_NUMBERS c = search (rules, id_other)

pub returns : goal.returns
returns c = search (rules, id_done)
