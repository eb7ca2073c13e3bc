-- The answers that the check does not find alone.
use Rattle.stored.proofs.Calls.{fit_first, fit_next, fit_not, fit_end, grown_bound}
use borrow.Author.Rules.{rules}
use Rattle.stored.proofs.old.runs_fit.Goals as goal

pub loop-i-init : goal.loop-i-init
loop-i-init c = (search rules, search (rules, fit_first))

pub returns-then-left-taken : goal.returns-then-left-taken
returns-then-left-taken c = search (rules, fit_not)

pub loop-i-preserved : goal.loop-i-preserved
loop-i-preserved c = (search (rules, grown_bound), search (rules, fit_next))

pub returns : goal.returns
returns c = search (rules, fit_end)
