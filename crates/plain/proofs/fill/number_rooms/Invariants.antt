-- The loop's invariant: after s spans ids and number are the rule's (`Numbering`). The measure is the spans left.
use Prim.Native.Nat.{◌-◌}
use lib.ListN.{length}
use Rattle.plain.proofs.Numbered.{Numbering}
use Rattle.plain.proofs.fill.number_rooms.Given as goal

abbrev pub invariant-loop-s : goal.invariant-loop-s
invariant-loop-s l = Numbering l.table l.area l.initial.ids l.initial.ws l.ids l.ws l.most l.s

abbrev pub decreases-loop-s : goal.decreases-loop-s
decreases-loop-s l = length l.area - l.s
