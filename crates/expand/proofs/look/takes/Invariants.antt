-- The loop's invariant: what is found so far is what the rule finds in the directions before d (`Looking`).
use lib.ListN.{length}
use Rattle.net.specs.Table.{net_at}
use Rattle.flood.specs.Stack.{marks_at}
use Rattle.expand.specs.Layout.{taken_of}
use Rattle.expand.proofs.Looks.{Looking}
use Rattle.expand.proofs.look.takes.Given as goal

abbrev pub invariant-loop-d : goal.invariant-loop-d
invariant-loop-d l = Looking (net_at l.table l.area l.ws) (marks_at (length l.area) l.ids l.ws) l.span.0 l.strayed (taken_of l.t) l.t.strays l.d
