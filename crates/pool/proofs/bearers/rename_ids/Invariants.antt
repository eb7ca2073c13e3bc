-- `pool::bearers::rename_ids` meets its contract. The loop's invariant is `Handing`: those before y in i's row bear the new id. The names are not written, so
-- the walk has ever fewer steps to go (`steps`), and where y names none all of the row bear it.
use Prim.Native.Nat.{◌<◌}
use lib.ListN.{length}
use mathlib.Core.Path.{◌≡◌}
use Rattle.pool.proofs.BearerLaws.{steps, Handing}
use Rattle.pool.proofs.bearers.rename_ids.Given as goal

abbrev pub invariant-loop-m : goal.invariant-loop-m
invariant-loop-m l = (length l.ws ≡ length l.initial.ws) × (l.y < l.m) × Handing l.m l.i l.new l.initial.ws l.ws l.y

abbrev pub decreases-loop-m : goal.decreases-loop-m
decreases-loop-m l = steps l.m l.initial.ws l.m l.y
