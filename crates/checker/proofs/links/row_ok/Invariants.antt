-- Invariant: the columns below x pass. A turn passes the k that follow.
use Prim.Native.Nat.{◌≤◌, ◌-◌}
use mathlib.Core.Path.{◌≡◌}
use mathlib.Core.Bool.{true}
use Rattle.field.specs.Seen.{seen}
use Rattle.checker.specs.Links.{half_at, in_columns}
use Rattle.checker.proofs.links.row_ok.Given as goal

abbrev pub invariant-loop-x : goal.invariant-loop-x
invariant-loop-x l = (l.x ≤ l.field.w) × (in_columns (seen l.field) (half_at (seen l.field)) l.z 0 l.x ≡ true)

abbrev pub decreases-loop-x : goal.decreases-loop-x
decreases-loop-x l = l.field.w - l.x
