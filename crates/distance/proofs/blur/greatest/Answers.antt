-- The answers that the check does not find alone.
use Rattle.distance.proofs.Blurs.{greatest_go, greatest-end}
use borrow.Author.Rules.{rules}
use Rattle.distance.proofs.blur.greatest.Goals as goal

pub loop-x-preserved : goal.loop-x-preserved
loop-x-preserved c = search (rules, greatest_go)

pub returns : goal.returns
returns c = search (rules, greatest-end)
