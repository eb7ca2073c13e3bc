-- Invariant: the walk over the connections of the cells below c, whose spans are all spans before the cell's index.
use Prim.Native.Nat.{◌≤◌, ◌-◌, ◌*◌}
use mathlib.Core.Path.{◌≡◌}
use lib.ListN.{length}
use Rattle.field.proofs.Places.{first_of}
use Rattle.mend.specs.Walk.{state, walk}
use Rattle.mend.specs.Grid.{bare}
use Rattle.mend.proofs.mend_cells.Given as goal

abbrev pub invariant-loop-c : goal.invariant-loop-c
invariant-loop-c l = (l.c ≤ length l.grid.count.now) × (l.c-end ≡ length l.grid.count.now) × (length l.con ≡ length l.initial.con) × (length l.changes ≡ length l.initial.changes)
    × (state l.con l.changes l.found ≡ walk (bare l.grid) l.room 0 (4 * first_of l.grid.count.now l.c) (state l.initial.con l.initial.changes 0))

abbrev pub decreases-loop-c : goal.decreases-loop-c
decreases-loop-c l = length l.grid.count.now - l.c
