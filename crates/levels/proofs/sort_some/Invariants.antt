-- The loop's invariant: the stacks are the rule's sort of the spans below k, written over what was there where the loop begins.
-- Each turn sorts span k.
use Prim.Native.Nat.{◌≤◌, ◌-◌}
use lib.ListN.{length}
use Rattle.levels.specs.Levels.{sorted_to, Moved}
use Rattle.levels.proofs.sort_some.Given as goal

abbrev pub invariant-loop-k : goal.invariant-loop-k
invariant-loop-k l = (l.k ≤ l.e) × Moved (length l.area) l.initial.stacks l.initial.fills l.stacks l.fills (sorted_to l.area l.dist l.ids l.level l.k)

abbrev pub decreases-loop-k : goal.decreases-loop-k
decreases-loop-k l = l.e - l.k
