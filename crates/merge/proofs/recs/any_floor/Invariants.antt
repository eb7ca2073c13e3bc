-- `merge::recs::any_floor` meets its contract. The loop's invariant: the rest of the list answers for the whole.
use lib.ListN.{drop}
use Rattle.pool.specs.Fixed.{floor_is}
use Rattle.rules.specs.Base.{any}
use mathlib.Core.Path.{◌≡◌}
use Rattle.merge.proofs.recs.any_floor.Given as goal

abbrev pub invariant-loop-f : goal.invariant-loop-f
invariant-loop-f l = any (floor_is l.ws l.b) l.l ≡ any (floor_is l.ws l.b) (drop l.f-index l.l)
