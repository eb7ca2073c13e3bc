-- Invariant: the spans of the cells before c have their cell. All cells in order are all spans in order.
use Prim.Native.Nat.{◌≤◌, ◌-◌, ◌*◌}
use mathlib.Core.Path.{◌≡◌}
use lib.ListN.{length}
use Rattle.rules.specs.Base.{upto}
use Rattle.rules.specs.Rows.{over_cell}
use Rattle.field.specs.Seen.{seen}
use Rattle.distance.specs.Walk.{note_cell}
use Rattle.distance.proofs.cells.spread.Given as goal

abbrev pub invariant-loop-c : goal.invariant-loop-c
invariant-loop-c l = (l.c ≤ l.all) × (l.all ≡ l.field.w * l.field.h) × (length l.cells ≡ length l.field.area.now) × (l.cells ≡ upto l.c (over_cell (seen l.field) (note_cell (seen l.field))) l.initial.cells)

abbrev pub decreases-loop-c : goal.decreases-loop-c
decreases-loop-c l = l.all - l.c
