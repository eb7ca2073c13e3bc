-- The loop's invariant: tries so far leave what tries leave, and the neighbours in directions before d are tried (`Moved`, `Sides`).
use Rattle.expand.specs.Front.{Moved, Sides}
use Rattle.expand.proofs.tries.try_around.Given as goal

abbrev pub invariant-loop-d : goal.invariant-loop-d
invariant-loop-d l = Moved l.area l.at.changes l.at.table l.ids l.initial.ws l.initial.r.noted l.initial.r.strays l.ws l.r.noted l.r.strays × Sides l.area l.at.changes l.at.table l.ids l.initial.ws l.ws l.r.strays l.span.0 l.d
