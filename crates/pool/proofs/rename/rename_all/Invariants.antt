-- `pool::rename::rename_all` meets its contract. The loop's invariant is `Searching`: the places of the records before y in old's row have been met. The row ends,
-- and at 0 every list that named old was met, since linked places mention it.
use mathlib.Core.Path.{◌≡◌}
use lib.ListN.{length}
use Rattle.pool.proofs.BearerLaws.{steps}
use Rattle.pool.proofs.SeekLaws.{Searching}
use Rattle.pool.proofs.rename.rename_all.Given as goal

abbrev pub invariant-loop-y : goal.invariant-loop-y
invariant-loop-y l = (length l.ws ≡ length l.initial.ws)
    × Searching l.m l.pair.absorbed l.pair.absorber l.names.old l.names.new l.half.size l.half.other l.half.links l.initial.ws l.ws l.y

abbrev pub decreases-loop-y : goal.decreases-loop-y
decreases-loop-y l = steps l.m l.initial.ws l.m l.y
