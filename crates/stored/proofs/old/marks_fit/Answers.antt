-- No number of spans is above that of all spans.
use Rattle.stored.proofs.Places.{old_length, few_fit}
use Rattle.stored.proofs.Calls.{many_some}
use borrow.Author.Rules.{rules}
use Rattle.stored.proofs.old.marks_fit.Goals as goal

pub returns-then-old-le-MOST_MARKED : goal.returns-then-old-le-MOST_MARKED
returns-then-old-le-MOST_MARKED c = search (rules, few_fit)

pub some_marks_fit-requires : goal.some_marks_fit-requires
some_marks_fit-requires c = (search (rules, old_length), search (rules, many_some))
