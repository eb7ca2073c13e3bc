-- The loop's invariant: the stacks are the rule's sort of the spans below i, written over what was there at entry. Each turn sorts a block.
-- At the end the rest is sorted too, and all spans are the rule's.
use Prim.Native.Nat.{◌≤◌, ◌-◌}
use lib.ListN.{length, replicate}
use Rattle.levels.specs.Levels.{stack_count, sorted_to, Moved}
use Rattle.levels.proofs.sort_cells_by_level.Given as goal

abbrev pub invariant-loop-i : goal.invariant-loop-i
invariant-loop-i l = (l.i ≤ length l.area) × Moved (length l.area) l.initial.stacks (replicate stack_count 0) l.stacks l.fills (sorted_to l.area l.dist l.ids l.level l.i)

abbrev pub decreases-loop-i : goal.decreases-loop-i
decreases-loop-i l = length l.area - l.i
