-- The code's `|` is the rules' `or`.
use Rattle.sizes.proofs.Tests.{or_great}
use borrow.Author.Rules.{rules}
use Rattle.sizes.proofs.or_too_great.Goals as goal

pub returns : goal.returns
returns c = search (rules, or_great)
