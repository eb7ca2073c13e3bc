-- The answers that the check does not find alone.
use Rattle.forms.proofs.Bytes.{new_length}
use Rattle.stored.proofs.NewPlaces.{at_first, at_on, numbers_first, numbers_next, numbers_not, numbers_end}
use borrow.Author.Rules.{rules}
use Rattle.stored.proofs.runs.numbers_right.Goals as goal

pub loop-j-init : goal.loop-j-init
loop-j-init c = (search (rules, new_length), search (rules, at_first), search (rules, numbers_first))

pub returns-then-not-number_right : goal.returns-then-not-number_right
returns-then-not-number_right c = search (rules, numbers_not)

pub loop-j-preserved : goal.loop-j-preserved
loop-j-preserved c = (search rules, search (rules, at_on), search (rules, numbers_next))

pub returns : goal.returns
returns c = search (rules, numbers_end)
