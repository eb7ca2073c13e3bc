-- The loop's invariant: what the directions from d on say is what all four say (`Looking`), since those before d said nothing.
--
use lib.ListN.{length}
use Rattle.net.specs.Table.{net_at}
use Rattle.flood.specs.Looks.{seed_of}
use Rattle.flood.specs.Stack.{marks_at}
use Rattle.flood.proofs.Sight.{Looking}
use Rattle.flood.proofs.look.objects.Given as goal

abbrev pub invariant-loop-d : goal.invariant-loop-d
invariant-loop-d l = Looking (net_at l.table l.area l.ws) (marks_at (length l.area) l.ids l.ws) (seed_of l.seed) l.span.0 l.d
