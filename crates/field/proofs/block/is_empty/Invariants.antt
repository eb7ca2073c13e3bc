-- Invariant: `empty` tells whether the cells below j have no span. A part of a block is not looked at.
use Prim.Native.Nat.{◌≤◌, ◌-◌}
use mathlib.Core.Path.{◌≡◌}
use Rattle.field.specs.Blocks.{empty_to}
use Rattle.field.proofs.block.is_empty.Given as goal

abbrev pub invariant-loop-j : goal.invariant-loop-j
invariant-loop-j l = (l.j ≤ 16) × (l.empty ≡ empty_to l.count l.c l.j)

abbrev pub decreases-loop-j : goal.decreases-loop-j
decreases-loop-j l = 16 - l.j
