-- The invariant `Entered`: the first j spans of the cell are added, and what is past the records is as it was.
-- It starts with none of them.
use Rattle.records.specs.Build.{Entered}
use Rattle.records.proofs.build.add_spans.Given as goal

abbrev pub invariant-loop-j : goal.invariant-loop-j
invariant-loop-j l = Entered l.plan l.area l.ids l.cell l.j l.top l.initial.ws l.end l.ws
