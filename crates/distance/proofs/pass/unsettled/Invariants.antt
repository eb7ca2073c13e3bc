-- Invariant: none of the values from k to s is above 2, so that the last above 2 is the last before k.
use mathlib.Core.Path.{◌≡◌}
use Rattle.distance.specs.Walk.{high_to}
use Rattle.distance.proofs.pass.unsettled.Given as goal

abbrev pub invariant-loop-k : goal.invariant-loop-k
invariant-loop-k l = high_to l.raw l.s ≡ high_to l.raw l.k
