-- The loop's invariant: the flow is the rule's after d directions (`Pushing`), and the stack has room.
use Rattle.flood.specs.Looks.{seed_of}
use Rattle.flood.proofs.Pushes.{Pushing}
use Rattle.flood.proofs.flow.push_all.Given as goal

abbrev pub invariant-loop-d : goal.invariant-loop-d
invariant-loop-d l = Pushing l.area l.dist l.cons l.at (seed_of l.seed) l.span.0 l.initial.ids l.initial.ws l.initial.h l.ids l.ws l.h l.d
