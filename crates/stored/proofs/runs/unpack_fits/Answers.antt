-- The answers that the check does not find alone.
use Rattle.forms.proofs.Bytes.{new_length}
use Rattle.stored.proofs.NewPlaces.{runs_below}
use Rattle.stored.proofs.NewCalls.{span_fit_first, span_fit_next, span_fit_not, span_fit_end}
use borrow.Author.Rules.{rules}
use Rattle.stored.proofs.runs.unpack_fits.Goals as goal

pub loop-j-init : goal.loop-j-init
loop-j-init c = (search (rules, new_length), search rules, search (rules, span_fit_first))

pub returns-then-left-taken : goal.returns-then-left-taken
returns-then-left-taken c = search (rules, span_fit_not)

pub loop-j-preserved : goal.loop-j-preserved
loop-j-preserved c = (search rules, search (rules, runs_below), search (rules, span_fit_next))

pub returns : goal.returns
returns c = search (rules, span_fit_end)
