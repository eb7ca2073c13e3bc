-- Each return is one case of the rule (Tests).
use Rattle.sizes.proofs.Tests.{great_flagged, great_plain}
use borrow.Author.Rules.{rules}
use Rattle.sizes.proofs.too_great.Goals as goal

pub returns-then-r : goal.returns-then-r
returns-then-r c = search (rules, great_flagged)

pub returns : goal.returns
returns c = search (rules, great_plain)
