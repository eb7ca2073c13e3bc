-- The answers that the check does not find alone.
use Rattle.stored.proofs.Places.{old_odd, old_stops, old_goes, old_end}
use borrow.Author.Rules.{rules}
use Rattle.stored.proofs.old.old_fine.Goals as goal

pub returns-then-old-ne1 : goal.returns-then-old-ne1
returns-then-old-ne1 c = search (rules, old_odd)

pub returns-then-old-i-ne-SPAN : goal.returns-then-old-i-ne-SPAN
returns-then-old-i-ne-SPAN c = search (rules, old_stops)

pub loop-i-preserved : goal.loop-i-preserved
loop-i-preserved c = (search rules, search (rules, old_goes))

pub returns : goal.returns
returns c = search (rules, old_end)
