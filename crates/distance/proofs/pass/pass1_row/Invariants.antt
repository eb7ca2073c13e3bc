-- Invariant: pass 1 has gone through the columns below x of row y, each of which came to at most twice its column, that is 510.
use Prim.Native.Nat.{◌≤◌, ◌-◌}
use mathlib.Core.Path.{◌≡◌}
use Rattle.rules.specs.Base.{upto}
use Rattle.rules.specs.Rows.{column, from_start}
use Rattle.field.specs.Seen.{seen}
use Rattle.distance.specs.Value.{Passing}
use Rattle.distance.proofs.pass.pass1_row.Given as goal

abbrev pub invariant-loop-x : goal.invariant-loop-x
invariant-loop-x l = (l.x ≤ l.field.w) × (l.raw ≡ upto l.x (column (seen l.field) (from_start (seen l.field)) l.y) l.initial.raw) × Passing (seen l.field) l.y l.x l.raw

abbrev pub decreases-loop-x : goal.decreases-loop-x
decreases-loop-x l = l.field.w - l.x
