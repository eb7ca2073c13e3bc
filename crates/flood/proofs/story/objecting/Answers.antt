use Rattle.flood.proofs.Stories.{objecting_start, objecting_here, objecting_on, objecting_last}
use borrow.Author.Rules.{rules}
use Rattle.flood.proofs.story.objecting.Goals as goal

pub loop-d-init : goal.loop-d-init
loop-d-init c = search (rules, objecting_start)

pub returns-in-Objection : goal.returns-in-Objection
returns-in-Objection c = search (rules, objecting_here)

pub loop-d-preserved : goal.loop-d-preserved
loop-d-preserved c = search (rules, objecting_on)

pub returns : goal.returns
returns c = search (rules, objecting_last)
