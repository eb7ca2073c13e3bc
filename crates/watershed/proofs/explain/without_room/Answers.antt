-- Each number is the rule's.
use Rattle.watershed.specs.Explain.{without_room}
use Rattle.watershed.proofs.explain.without_room.Goals as goal

pub returns : goal.returns
unfolding without_room
returns c = λ l. cc
