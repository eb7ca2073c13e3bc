-- Invariant: the layers below j have their cell. Layer j is span i + j, which stands in cell c; a cell of one span has it at i.
use Prim.Native.Nat.{◌≤◌, ◌-◌, ◌+◌}
use mathlib.Core.Path.{◌≡◌}
use lib.ListN.{length}
use Rattle.rules.specs.Base.{upto}
use Rattle.field.specs.Seen.{seen}
use Rattle.distance.specs.Walk.{note_cell}
use Rattle.distance.proofs.cells.spread_cell.Given as goal

abbrev pub invariant-loop-j : goal.invariant-loop-j
invariant-loop-j l = (l.j ≤ l.k) × (length l.cells ≡ length l.field.area.now) × (l.cells ≡ upto l.j (λ t. note_cell (seen l.field) (l.i + t)) l.initial.cells)

abbrev pub decreases-loop-j : goal.decreases-loop-j
decreases-loop-j l = l.k - l.j
