-- Invariant: the walk over the directions below d. What a walk needs is there for the rest of it, since it keeps lengths and finds one change a step at most.
use lib.ListN.{length}
use Prim.Native.Nat.{◌≤◌, ◌-◌, ◌*◌}
use mathlib.Core.Path.{◌≡◌}
use Rattle.mend.specs.Walk.{state, walk}
use Rattle.mend.specs.Grid.{bare}
use Rattle.mend.proofs.mend_span.Given as goal

abbrev pub invariant-loop-d : goal.invariant-loop-d
invariant-loop-d l = (l.d ≤ 4) × (length l.con ≡ length l.initial.con) × (length l.changes ≡ length l.initial.changes)
    × (state l.con l.changes l.found ≡ walk (bare l.grid) l.room (4 * l.s.0) l.d (state l.initial.con l.initial.changes l.k))

abbrev pub decreases-loop-d : goal.decreases-loop-d
decreases-loop-d l = 4 - l.d
