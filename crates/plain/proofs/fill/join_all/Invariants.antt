-- The loop's invariant: the room is the rule's after d directions (`Joining`). The measure is the directions left.
use Prim.Native.Nat.{◌-◌}
use Rattle.plain.proofs.Joining.{Joining}
use Rattle.plain.proofs.fill.join_all.Given as goal

abbrev pub invariant-loop-d : goal.invariant-loop-d
invariant-loop-d l = Joining l.table l.area l.room.area l.room.id l.span.0 l.initial.ids l.initial.ws l.initial.h l.ids l.ws l.h l.d

abbrev pub decreases-loop-d : goal.decreases-loop-d
decreases-loop-d l = 4 - l.d
