-- Invariant: the rows from a to y are left.
use Prim.Native.Nat.{◌≤◌}
use mathlib.Core.Path.{◌≡◌}
use Rattle.field.specs.Seen.{seen}
use Rattle.distance.specs.Value.{Low}
use Rattle.refresh.specs.Redo.{pass2_rows}
use Rattle.refresh.proofs.redo.pass2_rows.Given as goal

abbrev pub invariant-loop-y : goal.invariant-loop-y
invariant-loop-y l = (l.a ≤ l.y) × (l.y ≤ l.b) × (pass2_rows (seen l.field) l.pass1 l.a l.b l.initial.raw ≡ pass2_rows (seen l.field) l.pass1 l.a l.y l.raw) × Low (seen l.field) l.raw

abbrev pub decreases-loop-y : goal.decreases-loop-y
decreases-loop-y l = l.y
