-- Invariant: the columns from x to x + j - 1 pass.
use Prim.Native.Nat.{◌≤◌, ◌-◌}
use mathlib.Core.Path.{◌≡◌}
use mathlib.Core.Bool.{true}
use Rattle.field.specs.Seen.{seen}
use Rattle.checker.specs.Links.{half_at, in_columns}
use Rattle.checker.proofs.links.columns_ok.Given as goal

abbrev pub invariant-loop-j : goal.invariant-loop-j
invariant-loop-j l = (l.j ≤ l.k) × (in_columns (seen l.field) (half_at (seen l.field)) l.z l.x l.j ≡ true)

abbrev pub decreases-loop-j : goal.decreases-loop-j
decreases-loop-j l = l.k - l.j
