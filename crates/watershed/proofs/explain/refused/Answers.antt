-- Each number is the rule's.
use Rattle.rules.specs.Reasons.{unexplained}
use Rattle.watershed.proofs.explain.refused.Goals as goal

pub returns : goal.returns
unfolding unexplained
returns c = λ ws l. cc
