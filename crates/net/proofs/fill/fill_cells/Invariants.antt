-- Invariant: the spans of the cells from c to c + j - 1 are filled.
use Prim.Native.Nat.{◌≤◌, ◌-◌}
use mathlib.Core.Path.{◌≡◌}
use Rattle.field.specs.Seen.{seen}
use Rattle.net.specs.Fill.{filled_cells}
use Rattle.net.proofs.fill.fill_cells.Given as goal

abbrev pub invariant-loop-j : goal.invariant-loop-j
invariant-loop-j l = (l.j ≤ l.k) × (l.ws ≡ filled_cells (seen l.field) l.table l.c l.j l.initial.ws)

abbrev pub decreases-loop-j : goal.decreases-loop-j
decreases-loop-j l = l.k - l.j
