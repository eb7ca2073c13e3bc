-- Invariant: k is how many of the first j connections from b on are in the half. b is the first of a span, so that j alone tells the direction.
use Prim.Native.Nat.{◌-◌, ◌≤◌}
use mathlib.Core.Path.{◌≡◌}
use Rattle.checker.specs.Links.{links_in}
use Rattle.checker.proofs.tally.part.Given as goal

abbrev pub invariant-loop-j : goal.invariant-loop-j
invariant-loop-j l = (l.j ≤ l.m) × (l.k ≡ links_in l.con l.o l.b l.j)

abbrev pub decreases-loop-j : goal.decreases-loop-j
decreases-loop-j l = l.m - l.j
