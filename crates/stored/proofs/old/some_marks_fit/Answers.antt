-- The answers that the check does not find alone.
use Rattle.stored.proofs.Calls.{marks_first, marks_next, marks_not, marks_end, grown_bound}
use borrow.Author.Rules.{rules}
use Rattle.stored.proofs.old.some_marks_fit.Goals as goal

pub loop-i-init : goal.loop-i-init
loop-i-init c = (search rules, search (rules, marks_first))

pub returns-then-not-end_fits : goal.returns-then-not-end_fits
returns-then-not-end_fits c = search (rules, marks_not)

pub loop-i-preserved : goal.loop-i-preserved
loop-i-preserved c = (search (rules, grown_bound), search (rules, marks_next))

pub returns : goal.returns
returns c = search (rules, marks_end)
