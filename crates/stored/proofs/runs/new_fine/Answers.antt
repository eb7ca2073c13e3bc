-- The answers that the check does not find alone.
use Rattle.stored.proofs.NewPlaces.{new_odd, at_first, at_next, at-not, at_full, at-end}
use borrow.Author.Rules.{rules}
use Rattle.stored.proofs.runs.new_fine.Goals as goal

pub returns-then-new-ne1 : goal.returns-then-new-ne1
returns-then-new-ne1 c = search (rules, new_odd)

pub loop-j-init : goal.loop-j-init
loop-j-init c = (search rules, search (rules, at_first))

pub returns-then-not-record_fine : goal.returns-then-not-record_fine
returns-then-not-record_fine c = search (rules, at-not)

pub loop-j-preserved : goal.loop-j-preserved
loop-j-preserved c = (search rules, search (rules, at_next))

pub returns-then-t-ne-STRETCH : goal.returns-then-t-ne-STRETCH
returns-then-t-ne-STRETCH c = search (rules, at-end)

pub returns-else-t-ne-STRETCH : goal.returns-else-t-ne-STRETCH
returns-else-t-ne-STRETCH c = search (rules, at_full)
