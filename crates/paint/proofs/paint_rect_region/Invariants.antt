-- The loop's invariant: the rows from min_z to below z are painted, each from min_x to below max_x.
-- A row more is a row painted after them.
use Prim.Native.Nat.{◌≤◌, ◌-◌}
use mathlib.Core.Path.{◌≡◌}
use lib.ListN.{length}
use Rattle.paint.specs.Paint.{put_if, walk_in, in_rect}
use Rattle.paint.proofs.paint_rect_region.Given as goal

abbrev pub invariant-loop-z : goal.invariant-loop-z
invariant-loop-z l = (l.min_z ≤ l.z) × (l.z ≤ l.max_z) × (length l.ids ≡ length l.initial.ids) × (l.ids ≡ put_if (walk_in l.area (in_rect l.w l.count l.min_x l.max_x l.min_z l.z)) l.region l.initial.ids)

abbrev pub decreases-loop-z : goal.decreases-loop-z
decreases-loop-z l = l.max_z - l.z
