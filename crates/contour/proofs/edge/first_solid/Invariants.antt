-- Before each test the first solid direction of the four is that of those from d on: none before d was solid.
use Prim.Native.Nat.{◌-◌, ◌≤◌}
use mathlib.Core.Path.{◌≡◌}
use Rattle.rules.specs.Contour.{first_solid}
use Rattle.net.specs.Table.{net_at}
use Rattle.contour.specs.Ways.{first_from}
use Rattle.contour.proofs.edge.first_solid.Given as goal

abbrev pub invariant-loop-d : goal.invariant-loop-d
invariant-loop-d l = (l.d ≤ 4) × (first_solid (net_at l.table l.ids l.ws) l.ids l.span.0 ≡ first_from (net_at l.table l.ids l.ws) l.ids l.span.0 (4 - l.d) l.d)

abbrev pub decreases-loop-d : goal.decreases-loop-d
decreases-loop-d l = 4 - l.d
