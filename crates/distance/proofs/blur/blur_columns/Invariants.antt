-- Invariant: the columns from x to x + j - 1 of row y are blurred.
use Prim.Native.Nat.{◌≤◌, ◌-◌, ◌+◌, ◌*◌}
use mathlib.Core.Path.{◌≡◌}
use lib.ListN.{length}
use Rattle.rules.specs.Rows.{blur_to}
use Rattle.field.specs.Seen.{seen}
use Rattle.distance.specs.Walk.{columns_up}
use Rattle.distance.proofs.blur.blur_columns.Given as goal

abbrev pub invariant-loop-j : goal.invariant-loop-j
invariant-loop-j l = (l.j ≤ l.k) × (l.first ≡ l.field.w * l.y + l.x) × (length l.blurred ≡ length l.field.area.now) × (l.blurred ≡ columns_up (seen l.field) (blur_to (seen l.field) l.raw) l.y l.x l.j l.initial.blurred)

abbrev pub decreases-loop-j : goal.decreases-loop-j
decreases-loop-j l = l.k - l.j
