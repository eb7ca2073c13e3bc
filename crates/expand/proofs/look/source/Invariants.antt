-- The loop's invariant: no neighbour in a direction before d has the sum (`Looking`).
use lib.ListN.{length}
use Rattle.net.specs.Table.{net_at}
use Rattle.flood.specs.Stack.{marks_at}
use Rattle.expand.proofs.Tellings.{Looking}
use Rattle.expand.proofs.look.source.Given as goal

abbrev pub invariant-loop-d : goal.invariant-loop-d
invariant-loop-d l = Looking (net_at l.table l.area l.ws) (marks_at (length l.area) l.ids l.ws) l.span.0 l.far l.d
