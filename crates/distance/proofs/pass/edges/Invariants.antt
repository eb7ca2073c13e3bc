-- Invariant: the spans from s to k lack a neighbour, so that pass 1 gives each of them 0, and the list is that of pass 1 up to k.
use Prim.Native.Nat.{◌-◌}
use mathlib.Core.Path.{◌≡◌}
use Rattle.rules.specs.Rows.{from_start}
use Rattle.field.specs.Seen.{seen}
use Rattle.distance.specs.Value.{PassedTo}
use Rattle.distance.specs.Walk.{spans_up}
use Rattle.distance.proofs.pass.edges.Given as goal

abbrev pub invariant-loop-k : goal.invariant-loop-k
invariant-loop-k l = (l.raw ≡ spans_up (from_start (seen l.field)) l.s (l.k - l.s) l.initial.raw) × PassedTo (seen l.field) l.k l.raw
