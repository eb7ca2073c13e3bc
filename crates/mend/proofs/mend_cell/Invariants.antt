-- Invariant: the walk over the connections of the layers below j. Walks one after the other are one walk.
use Prim.Native.Nat.{◌≤◌, ◌-◌, ◌*◌}
use mathlib.Core.Path.{◌≡◌}
use lib.ListN.{length}
use Rattle.mend.specs.Walk.{state, walk}
use Rattle.mend.specs.Grid.{bare}
use Rattle.mend.proofs.mend_cell.Given as goal

abbrev pub invariant-loop-j : goal.invariant-loop-j
invariant-loop-j l = (l.j ≤ l.layers) × (length l.con ≡ length l.initial.con) × (length l.changes ≡ length l.initial.changes)
    × (state l.con l.changes l.found ≡ walk (bare l.grid) l.room (4 * l.i) (4 * l.j) (state l.initial.con l.initial.changes l.k))

abbrev pub decreases-loop-j : goal.decreases-loop-j
decreases-loop-j l = l.layers - l.j
