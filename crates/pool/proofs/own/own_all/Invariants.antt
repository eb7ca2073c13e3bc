-- `pool::own::own_all` meets its contract. The loop's invariant is `Owning`: the records before x stand beside their lists, and only the free half is written.
-- Lists lie apart, so no record is written over another's.
use Rattle.pool.proofs.OwnLaws.{Owning}
use Rattle.pool.proofs.own.own_all.Given as goal

abbrev pub invariant-loop-x : goal.invariant-loop-x
invariant-loop-x l = Owning l.m l.half.size l.half.now l.half.other l.x l.initial.ws l.ws
