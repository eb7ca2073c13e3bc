-- `pool::rename::rename_named` meets its contract. The loop's invariant is `Walked`: q is 0 or the last place left that named y, and the records beside all later
-- ones that did have been met. Links and the records beside the places are in no list, so they stay, and a link leads to an earlier place: q falls.
use mathlib.Core.Path.{◌≡◌}
use lib.ListN.{length}
use Rattle.pool.proofs.SweepLaws.{Walked}
use Rattle.pool.proofs.rename.rename_named.Given as goal

abbrev pub invariant-loop-q : goal.invariant-loop-q
invariant-loop-q l = (length l.ws ≡ length l.initial.ws) × Walked l.m l.pair.absorbed l.pair.absorber l.y l.names.old l.names.new l.half.size l.half.other l.half.links l.q l.initial.ws l.ws

abbrev pub decreases-loop-q : goal.decreases-loop-q
decreases-loop-q l = l.q
