-- The loop's invariant: no direction before d sees an objection (`Objecting`).
use lib.ListN.{length}
use Rattle.net.specs.Table.{net_at}
use Rattle.flood.specs.Looks.{seed_of}
use Rattle.flood.specs.Stack.{marks_at}
use Rattle.flood.proofs.Stories.{Objecting}
use Rattle.flood.proofs.story.objecting.Given as goal

abbrev pub invariant-loop-d : goal.invariant-loop-d
invariant-loop-d l = Objecting (net_at l.table l.area l.ws) (marks_at (length l.area) l.ids l.ws) (seed_of l.seed) l.span.0 l.d
