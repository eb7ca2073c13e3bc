-- The loop's invariant: stack j has got what remains of the first i entries of the stack before, which is not written meanwhile.
-- There is room: both stacks together have at most n entries (`Stacked`).
use mathlib.Core.List.{[]}
use Prim.Native.Nat.{◌≤◌, ◌-◌}
use lib.ListN.{length, get_or, take}
use Rattle.rules.specs.Growth.{remains}
use Rattle.levels.specs.Levels.{levels_at, appended, Moved}
use Rattle.levels.proofs.append_stacks.Given as goal

abbrev pub invariant-loop-i : goal.invariant-loop-i
invariant-loop-i l = let n = length l.ids in
    let before = levels_at l.initial.stacks n l.initial.fills in
    (l.i ≤ l.count) × Moved n l.initial.stacks l.initial.fills l.stacks l.fills (appended l.j (remains l.ids (take l.i (get_or before (l.j - 1) []))) before) × (l.count ≤ n)

abbrev pub decreases-loop-i : goal.decreases-loop-i
decreases-loop-i l = l.count - l.i
