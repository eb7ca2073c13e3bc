-- Invariant: what is left below row y is what was left; rows of the kept list outside those redone are as they were.
use Prim.Native.Nat.{◌≤◌, ◌+◌}
use mathlib.Core.Path.{◌≡◌}
use lib.ListN.{length}
use Rattle.rules.specs.Refresh.{backward}
use Rattle.field.specs.Seen.{seen}
use Rattle.distance.specs.Value.{Low}
use Rattle.refresh.specs.Redo.{Kept}
use Rattle.refresh.proofs.redo.settle2.Given as goal

abbrev pub invariant-loop-y : goal.invariant-loop-y
invariant-loop-y l = (l.y ≤ l.first + 1) × (backward (seen l.field) (l.first + 1) l.pass1 (l.first + 1) l.initial.raw ≡ backward (seen l.field) (l.first + 1) l.pass1 l.y l.raw) × Low (seen l.field) l.raw × Kept (seen l.field) l.y (l.first + 1) l.initial.kept l.kept × (length l.kept ≡ length l.field.area.now)

abbrev pub decreases-loop-y : goal.decreases-loop-y
decreases-loop-y l = l.y
