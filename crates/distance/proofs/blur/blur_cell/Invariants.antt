-- Invariant: the layers below j are blurred. Layer j is span i + j, which stands in cell c.
use Prim.Native.Nat.{◌≤◌, ◌-◌, ◌+◌}
use mathlib.Core.Path.{◌≡◌}
use lib.ListN.{length}
use Rattle.rules.specs.Base.{upto}
use Rattle.field.specs.Seen.{seen}
use Rattle.rules.specs.Rows.{blur_to}
use Rattle.distance.proofs.blur.blur_cell.Given as goal

abbrev pub invariant-loop-j : goal.invariant-loop-j
invariant-loop-j l = (l.j ≤ l.k) × (length l.blurred ≡ length l.field.area.now) × (l.blurred ≡ upto l.j (λ t. blur_to (seen l.field) l.raw (l.i + t)) l.initial.blurred)

abbrev pub decreases-loop-j : goal.decreases-loop-j
decreases-loop-j l = l.k - l.j
