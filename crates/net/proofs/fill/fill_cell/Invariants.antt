-- Invariant: the first j spans of the cell are filled.
use Prim.Native.Nat.{◌≤◌, ◌-◌}
use mathlib.Core.Path.{◌≡◌}
use Rattle.field.specs.Seen.{seen}
use Rattle.net.specs.Fill.{filled}
use Rattle.net.proofs.fill.fill_cell.Given as goal

abbrev pub invariant-loop-j : goal.invariant-loop-j
invariant-loop-j l = (l.j ≤ l.spans) × (l.ws ≡ filled (seen l.field) l.table l.first l.j l.initial.ws)

abbrev pub decreases-loop-j : goal.decreases-loop-j
decreases-loop-j l = l.spans - l.j
