-- Invariant: the spans of the cells before c are filled; after all cells these are all spans (Fills).
use Prim.Native.Nat.{◌≤◌, ◌-◌, ◌*◌}
use mathlib.Core.Path.{◌≡◌}
use Rattle.field.specs.Seen.{seen}
use Rattle.field.proofs.Places.{first_of}
use Rattle.net.specs.Fill.{filled}
use Rattle.net.proofs.fill.fill_neighbours.Given as goal

abbrev pub invariant-loop-c : goal.invariant-loop-c
invariant-loop-c l = (l.c ≤ l.field.w * l.field.h) × (l.cells ≡ l.field.w * l.field.h) × (l.ws ≡ filled (seen l.field) l.table 0 (first_of l.field.count.now l.c) l.initial.ws)

abbrev pub decreases-loop-c : goal.decreases-loop-c
decreases-loop-c l = l.cells - l.c
