-- The loop's invariant: j spans of the cell are noted (`Seen`). The measure is the spans left.
use Prim.Native.Nat.{◌-◌}
use Rattle.sizes.specs.Walk.{extent_at}
use Rattle.sizes.proofs.WalkLaws.{Seen}
use Rattle.sizes.proofs.walk.walk_cell.Given as goal

abbrev pub invariant-loop-j : goal.invariant-loop-j
invariant-loop-j l = Seen l.area l.ids l.id l.first l.x l.z (extent_at l.initial.seen) (extent_at l.seen) l.j l.spans

abbrev pub decreases-loop-j : goal.decreases-loop-j
decreases-loop-j l = l.spans - l.j
