-- The loop's invariant: the walkable spans from the cell's index to below i are painted.
-- At the end those are the cell's spans, since the field is not refused.
use Prim.Native.Nat.{◌≤◌, ◌-◌}
use mathlib.Core.Path.{◌≡◌}
use lib.ListN.{length}
use Rattle.paint.specs.Paint.{put_if, walk_in, between}
use Rattle.paint.proofs.paint_cell.Given as goal

abbrev pub invariant-loop-i : goal.invariant-loop-i
invariant-loop-i l = (l.first ≤ l.i) × (l.i ≤ l.last) × (length l.ids ≡ length l.initial.ids) × (l.ids ≡ put_if (walk_in l.area (between l.first l.i)) l.region l.initial.ids)

abbrev pub decreases-loop-i : goal.decreases-loop-i
decreases-loop-i l = l.last - l.i
