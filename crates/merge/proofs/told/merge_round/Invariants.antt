-- The loop's invariant: records, merges and what is noted are the rule's after i turns (`NotedRound`). The measure is the records left.
use Rattle.merge.specs.Told.{NotedRound}
use Rattle.merge.proofs.told.merge_round.Given as goal

abbrev pub invariant-loop-i : goal.invariant-loop-i
invariant-loop-i l = NotedRound l.area l.i l.m l.initial.noted.round.half.size l.end l.initial.ws l.count l.ws l.noted
