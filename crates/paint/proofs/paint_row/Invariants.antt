-- The loop's invariant: the cells of row z from min_x to below x are painted.
-- Cell z * w + x is the one of column x and row z, since x is below w.
use Prim.Native.Nat.{◌+◌, ◌≤◌, ◌-◌}
use mathlib.Core.Path.{◌≡◌}
use lib.ListN.{length}
use Rattle.paint.specs.Paint.{put_if, walk_in, in_rect}
use Rattle.paint.proofs.paint_row.Given as goal

abbrev pub invariant-loop-x : goal.invariant-loop-x
invariant-loop-x l = (l.min_x ≤ l.x) × (l.x ≤ l.max_x) × (length l.ids ≡ length l.initial.ids) × (l.ids ≡ put_if (walk_in l.area (in_rect l.w l.count l.min_x l.x l.z (l.z + 1))) l.region l.initial.ids)

abbrev pub decreases-loop-x : goal.decreases-loop-x
decreases-loop-x l = l.max_x - l.x
