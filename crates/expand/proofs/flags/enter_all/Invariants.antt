-- The loop's invariant: the entries before j are marked, and the flags of those without an id are up (`Entering`).
use Rattle.expand.specs.Front.{Entering}
use Rattle.expand.proofs.flags.enter_all.Given as goal

abbrev pub invariant-loop-j : goal.invariant-loop-j
invariant-loop-j l = Entering l.stack.at l.flags l.stack.fill l.ids l.initial.ws l.ws l.j
