-- Invariant: pass 1 has gone through rows a to y, and every value is at most 510.
use Prim.Native.Nat.{◌≤◌, ◌-◌}
use mathlib.Core.Path.{◌≡◌}
use Rattle.field.specs.Seen.{seen}
use Rattle.distance.specs.Value.{Low}
use Rattle.refresh.specs.Redo.{pass1_rows}
use Rattle.refresh.proofs.redo.pass1_rows.Given as goal

abbrev pub invariant-loop-y : goal.invariant-loop-y
invariant-loop-y l = (l.a ≤ l.y) × (l.y ≤ l.b) × (l.pass1 ≡ pass1_rows (seen l.field) l.a l.y l.initial.pass1) × Low (seen l.field) l.pass1

abbrev pub decreases-loop-y : goal.decreases-loop-y
decreases-loop-y l = l.b - l.y
