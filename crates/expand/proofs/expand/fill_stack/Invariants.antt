-- The loop's invariant: what is stacked, with the spans from s on that pass the test, is the rule's list (`Filling`).
use lib.ListN.{length}
use Rattle.expand.specs.Layout.{Filling}
use Rattle.expand.proofs.expand.fill_stack.Given as goal

abbrev pub invariant-loop-s : goal.invariant-loop-s
invariant-loop-s l = Filling (length l.area) l.area l.ids l.initial.ws l.ws l.s l.fill
