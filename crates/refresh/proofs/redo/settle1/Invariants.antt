-- Invariant: what is left from row y on is what was left from row z1 + 1 on; rows of the kept list outside those redone are as they were.
use Prim.Native.Nat.{◌≤◌, ◌-◌, ◌+◌}
use mathlib.Core.Path.{◌≡◌}
use lib.ListN.{length}
use Rattle.rules.specs.Refresh.{onward}
use Rattle.field.specs.Seen.{seen}
use Rattle.distance.specs.Value.{Low}
use Rattle.refresh.specs.Redo.{Kept}
use Rattle.refresh.proofs.redo.settle1.Given as goal

abbrev pub invariant-loop-y : goal.invariant-loop-y
invariant-loop-y l = (l.z1 + 1 ≤ l.y) × (l.y ≤ l.field.h) × (onward (seen l.field) l.z1 (l.field.h - (l.z1 + 1)) (l.z1 + 1) l.initial.pass1 ≡ onward (seen l.field) l.z1 (l.field.h - l.y) l.y l.pass1) × Low (seen l.field) l.pass1 × Kept (seen l.field) (l.z1 + 1) l.y l.initial.kept l.kept × (length l.kept ≡ length l.field.area.now)

abbrev pub decreases-loop-y : goal.decreases-loop-y
decreases-loop-y l = l.field.h - l.y
