-- Each number is the rule's.
use Rattle.watershed.specs.Explain.{with_room}
use Rattle.watershed.proofs.explain.with_room.Goals as goal

pub returns : goal.returns
unfolding with_room
returns c = λ l. cc
