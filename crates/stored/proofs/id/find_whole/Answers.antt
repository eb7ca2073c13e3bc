-- The answers that the check does not find alone.
use Rattle.forms.proofs.Bytes.{new_length}
use Rattle.stored.proofs.NewPlaces.{at_first, at_on}
use Rattle.stored.proofs.Seeking.{seeks_first, stretch_fits, seeks_found, seeks_next, seeks_end}
use borrow.Author.Rules.{rules}
use Rattle.stored.proofs.id.find_whole.Goals as goal

pub loop-j-init : goal.loop-j-init
loop-j-init c = (search (rules, new_length), search (rules, at_first), search (rules, seeks_first))

pub returns-then-run_holds : goal.returns-then-run_holds
returns-then-run_holds c = search (rules, seeks_found)

pub stretch_after-p-requires : goal.stretch_after-p-requires
stretch_after-p-requires c = search (rules, stretch_fits)

pub loop-j-preserved : goal.loop-j-preserved
loop-j-preserved c = (search rules, search (rules, at_on), search (rules, seeks_next))

pub returns : goal.returns
returns c = search (rules, seeks_end)
