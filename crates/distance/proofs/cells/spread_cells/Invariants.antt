-- Invariant: the spans of the cells from c to c + j - 1 have their cell.
use Prim.Native.Nat.{◌≤◌, ◌-◌}
use mathlib.Core.Path.{◌≡◌}
use lib.ListN.{length}
use Rattle.field.specs.Seen.{seen}
use Rattle.distance.specs.Walk.{note_cell, cells_up}
use Rattle.distance.proofs.cells.spread_cells.Given as goal

abbrev pub invariant-loop-j : goal.invariant-loop-j
invariant-loop-j l = (l.j ≤ l.k) × (length l.cells ≡ length l.field.area.now) × (l.cells ≡ cells_up (seen l.field) (note_cell (seen l.field)) l.c l.j l.initial.cells)

abbrev pub decreases-loop-j : goal.decreases-loop-j
decreases-loop-j l = l.k - l.j
