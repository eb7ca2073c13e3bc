-- `merge::recs::floor_in` meets its contract. The loop's invariant is `Looked`: the records of id a that come before y in their row have no floor of id b.
-- Each step leaves fewer to go to (`steps`), and after the last of them, at 0, all have been looked at.
use Rattle.pool.proofs.BearerLaws.{steps}
use Rattle.merge.proofs.SuitLaws.{Looked}
use Rattle.merge.proofs.recs.floor_in.Given as goal

abbrev pub invariant-loop-y : goal.invariant-loop-y
invariant-loop-y l = Looked l.m l.a l.b l.ws l.y

abbrev pub decreases-loop-y : goal.decreases-loop-y
decreases-loop-y l = steps l.m l.ws l.m l.y
