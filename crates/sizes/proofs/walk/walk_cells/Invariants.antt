-- The loop's invariant: the spans of c cells are noted (`Walked`). The measure is the cells left.
use Prim.Native.Nat.{◌-◌}
use Rattle.sizes.specs.Walk.{extent_at}
use Rattle.field.specs.Seen.{seen}
use Rattle.sizes.proofs.WalkLaws.{Walked}
use Rattle.sizes.proofs.walk.walk_cells.Given as goal

abbrev pub invariant-loop-c : goal.invariant-loop-c
invariant-loop-c l = Walked (seen l.field) l.ids l.id (extent_at l.seen) l.first l.c

abbrev pub decreases-loop-c : goal.decreases-loop-c
decreases-loop-c l = l.cells - l.c
