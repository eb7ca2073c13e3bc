-- The loop's invariant: the marks are those that the changes before i give (`Writing`).
use lib.ListN.{length}
use Rattle.expand.specs.Front.{Writing}
use Rattle.expand.proofs.round.write_all.Given as goal

abbrev pub invariant-loop-i : goal.invariant-loop-i
invariant-loop-i l = Writing (length l.initial.ids) l.changes l.lo l.hi l.initial.ids l.initial.ws l.ids l.ws l.i
