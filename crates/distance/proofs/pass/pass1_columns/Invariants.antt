-- Invariant: pass 1 has gone through the columns from x to x + j - 1 of row y.
use Prim.Native.Nat.{◌≤◌, ◌-◌, ◌+◌}
use mathlib.Core.Path.{◌≡◌}
use Rattle.rules.specs.Rows.{from_start}
use Rattle.field.specs.Seen.{seen}
use Rattle.distance.specs.Value.{Passing}
use Rattle.distance.specs.Walk.{columns_up}
use Rattle.distance.proofs.pass.pass1_columns.Given as goal

abbrev pub invariant-loop-j : goal.invariant-loop-j
invariant-loop-j l = (l.j ≤ l.k) × (l.raw ≡ columns_up (seen l.field) (from_start (seen l.field)) l.y l.x l.j l.initial.raw) × Passing (seen l.field) l.y (l.x + l.j) l.raw

abbrev pub decreases-loop-j : goal.decreases-loop-j
decreases-loop-j l = l.k - l.j
