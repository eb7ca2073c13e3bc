-- The loop's invariant: the flags of the entries before j are down, and those with an id are marked (`Leaving`).
use Rattle.expand.specs.Front.{Leaving}
use Rattle.expand.proofs.flags.leave_all.Given as goal

abbrev pub invariant-loop-j : goal.invariant-loop-j
invariant-loop-j l = Leaving l.stack.at l.flags l.stack.fill l.ids l.initial.ws l.ws l.j
