-- The loop's invariant: what is left to fill gives what the whole filling gives (`Running`). The measure is spans that wait and spans without an id.
use Prim.Native.Nat.{◌+◌}
use Rattle.space.specs.Space.{tally}
use Rattle.plain.proofs.Filled.{Running}
use Rattle.plain.proofs.fill.fill_room.Given as goal

abbrev pub invariant-loop-top : goal.invariant-loop-top
invariant-loop-top l = Running l.table l.area l.room.area l.room.id l.initial.ids l.initial.ws l.ids l.ws l.top

abbrev pub decreases-loop-top : goal.decreases-loop-top
decreases-loop-top l = l.top + tally 0 l.ids
