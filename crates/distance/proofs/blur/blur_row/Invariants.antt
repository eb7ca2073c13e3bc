-- Invariant: the columns below x are blurred.
use Prim.Native.Nat.{◌≤◌, ◌-◌}
use mathlib.Core.Path.{◌≡◌}
use lib.ListN.{length}
use Rattle.rules.specs.Base.{upto}
use Rattle.rules.specs.Rows.{column, blur_to}
use Rattle.field.specs.Seen.{seen}
use Rattle.distance.proofs.blur.blur_row.Given as goal

abbrev pub invariant-loop-x : goal.invariant-loop-x
invariant-loop-x l = (l.x ≤ l.field.w) × (length l.blurred ≡ length l.field.area.now) × (l.blurred ≡ upto l.x (column (seen l.field) (blur_to (seen l.field) l.raw) l.y) l.initial.blurred)

abbrev pub decreases-loop-x : goal.decreases-loop-x
decreases-loop-x l = l.field.w - l.x
