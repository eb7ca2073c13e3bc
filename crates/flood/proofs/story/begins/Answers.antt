use borrow.Author.Rules.{rules}
use Rattle.rules.specs.Reasons.{begins}
use Rattle.flood.proofs.story.begins.Goals as goal

pub returns : goal.returns
unfolding begins
returns c = search rules
