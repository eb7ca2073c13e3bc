-- Invariant: pass 1 has gone through the layers below j, each of which came to at most twice its column; the columns before x and the rows before y did
-- before. What a span reads stands in cells before its own, so it is at most 510.
use Prim.Native.Nat.{ℕ, ◌≤◌, ◌<◌, ◌-◌, ◌+◌, ◌*◌}
use mathlib.Core.Path.{◌≡◌}
use Rattle.rules.specs.Base.{upto}
use Rattle.rules.specs.Distance.{far}
use Rattle.rules.specs.Rows.{from_start}
use Rattle.field.specs.Seen.{seen}
use Rattle.distance.specs.Value.{Passing}
use Rattle.distance.proofs.pass.pass1_cell.Given as goal

abbrev pub invariant-loop-j : goal.invariant-loop-j
invariant-loop-j l = (l.j ≤ l.k) × (l.c ≡ l.field.w * l.y + l.x) × (l.raw ≡ upto l.j (λ t. from_start (seen l.field) (l.i + t)) l.initial.raw) × Passing (seen l.field) l.y l.x l.raw × ((t : ℕ) → t < l.j → far l.raw (l.i + t) ≤ 2 * l.x)

abbrev pub decreases-loop-j : goal.decreases-loop-j
decreases-loop-j l = l.k - l.j
