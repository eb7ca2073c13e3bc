-- `pool::carry::carry_all` meets its contract. The loop's invariant is `Carried`: the records from x on are carried, the others wait as they were.
-- The sum of the lists that wait is the room that is left.
use Rattle.pool.specs.Pool.{Carried}
use Rattle.pool.proofs.carry.carry_all.Given as goal

abbrev pub invariant-loop-x : goal.invariant-loop-x
invariant-loop-x l = Carried l.m l.pair.absorbed l.pair.absorber l.x l.names.old l.names.new l.to l.e l.limit l.initial.ws l.ws
