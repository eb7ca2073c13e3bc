-- Each return is one case of the rule (Tests).
use Rattle.sizes.proofs.Tests.{scale_none, scale_some}
use borrow.Author.Rules.{rules}
use Rattle.sizes.proofs.wrong_scale.Goals as goal

pub returns-then-k-eq0 : goal.returns-then-k-eq0
returns-then-k-eq0 c = search (rules, scale_none)

pub returns : goal.returns
returns c = search (rules, scale_some)
