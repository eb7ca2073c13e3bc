-- `pool::links::link_all` meets its contract. The loop's invariant is `Linking`: the places before q are linked as they were named, and only links are written.
-- The places lie before the links, so what they hold stays; at first all lasts are 0, and no place is linked.
use Rattle.pool.proofs.LinkLaws.{Linking}
use Rattle.pool.proofs.links.link_all.Given as goal

abbrev pub invariant-loop-q : goal.invariant-loop-q
invariant-loop-q l = Linking l.m l.half.size l.half.now l.half.top l.half.links l.q l.initial.ws l.ws
