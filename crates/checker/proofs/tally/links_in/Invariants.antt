-- Invariant: k is how many of the first b connections are in the half; b is the first of a span, or the end.
use Prim.Native.Nat.{◌-◌, ◌%◌, ◌≤◌}
use mathlib.Core.Path.{◌≡◌}
use lib.ListN.{length}
use Rattle.checker.specs.Links.{links_in}
use Rattle.checker.proofs.tally.links_in.Given as goal

abbrev pub invariant-loop-b : goal.invariant-loop-b
invariant-loop-b l = (l.b ≤ length l.con) × (l.b % 4 ≡ 0) × (l.k ≡ links_in l.con l.o 0 l.b)

abbrev pub decreases-loop-b : goal.decreases-loop-b
decreases-loop-b l = length l.con - l.b
