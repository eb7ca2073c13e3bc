-- The answers that the check does not find alone.
use Rattle.stored.proofs.Halving.{within_first, within_beyond, within_cut, within-other, within_found, within_on, within-wrong}
use borrow.Author.Rules.{rules}
use Rattle.stored.proofs.id.read_stretch.Goals as goal

pub loop-j-init : goal.loop-j-init
loop-j-init c = search (rules, within_first)

pub returns-then-j-m : goal.returns-then-j-m
returns-then-j-m c = search (rules, within_cut)

pub returns-then-file-j-eq-END : goal.returns-then-file-j-eq-END
returns-then-file-j-eq-END c = search (rules, within_beyond)

pub returns-then-not-is_run : goal.returns-then-not-is_run
returns-then-not-is_run c = search (rules, within-other)

pub returns-then-run_holds : goal.returns-then-run_holds
returns-then-run_holds c = search (rules, within_found)

pub loop-j-preserved : goal.loop-j-preserved
loop-j-preserved c = search (rules, within_on)

pub returns : goal.returns
returns c = search (rules, within-wrong)
