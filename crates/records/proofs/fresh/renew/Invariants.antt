-- The invariant `Renewed`: the records before i are new, and `lower` is how many spans have an id below i.
-- It starts from the counts of all ids.
use mathlib.Core.Path.{◌≡◌}
use Rattle.records.specs.Rows.{slot}
use Rattle.records.specs.Fresh.{Renewed}
use Rattle.records.proofs.fresh.renew.Given as goal

abbrev pub invariant-loop-i : goal.invariant-loop-i
invariant-loop-i l = Renewed l.ids l.m l.i l.initial.ws l.ws × (l.lower ≡ slot l.ids l.i)
