-- Invariant: the row as a whole equals the x columns that are to go, done to the list as it is. A turn does the last k of them.
use Prim.Native.Nat.{◌≤◌}
use mathlib.Core.Path.{◌≡◌}
use Rattle.rules.specs.Distance.{lower}
use Rattle.rules.specs.Rows.{column, downto}
use Rattle.field.specs.Seen.{seen}
use Rattle.distance.specs.Value.{Low}
use Rattle.distance.proofs.pass.pass2_row.Given as goal

abbrev pub invariant-loop-x : goal.invariant-loop-x
invariant-loop-x l = (l.x ≤ l.field.w) × (downto l.field.w (column (seen l.field) (lower (seen l.field) 2 1 1 0) l.y) l.initial.raw ≡ downto l.x (column (seen l.field) (lower (seen l.field) 2 1 1 0) l.y) l.raw) × Low (seen l.field) l.raw

abbrev pub decreases-loop-x : goal.decreases-loop-x
decreases-loop-x l = l.x
