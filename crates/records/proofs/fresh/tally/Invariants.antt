-- The invariant `Tallied`: the column of counts says how many of the first k spans have each id below m.
-- It starts with zeros, and each span adds one where its id is below m.
use Rattle.records.specs.Fresh.{Tallied}
use Rattle.records.proofs.fresh.tally.Given as goal

abbrev pub invariant-loop-r : goal.invariant-loop-r
invariant-loop-r l = Tallied l.ids l.m l.r-index l.initial.ws l.ws
