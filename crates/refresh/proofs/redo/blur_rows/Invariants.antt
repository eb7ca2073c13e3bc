-- Invariant: the rows from the first to y are blurred.
use Prim.Native.Nat.{◌≤◌, ◌-◌, ◌+◌}
use mathlib.Core.Path.{◌≡◌}
use lib.ListN.{length}
use Rattle.field.specs.Seen.{seen}
use Rattle.refresh.specs.Redo.{blur_till}
use Rattle.refresh.proofs.redo.blur_rows.Given as goal

abbrev pub invariant-loop-y : goal.invariant-loop-y
invariant-loop-y l = (l.first ≤ l.y) × (l.y ≤ l.last + 1) × (l.blurred ≡ blur_till (seen l.field) l.raw l.first l.y l.initial.blurred) × (length l.blurred ≡ length l.field.area.now)

abbrev pub decreases-loop-y : goal.decreases-loop-y
decreases-loop-y l = l.last + 1 - l.y
