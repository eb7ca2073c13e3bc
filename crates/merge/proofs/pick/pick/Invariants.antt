-- `merge::pick::pick` meets its contract. The loop's invariant: the rest of the list, from the best so far, picks what the whole picks.
use lib.ListN.{drop, get_or}
use Rattle.pool.specs.Fixed.{picked_f}
use Rattle.table.specs.View.{view, rec_at}
use Prim.Native.Nat.{◌<◌, ◌*◌}
use mathlib.Core.Path.{◌≡◌}
use Rattle.merge.proofs.pick.pick.Given as goal

abbrev pub invariant-loop-r : goal.invariant-loop-r
invariant-loop-r l = (l.best.id < l.m) × (picked_f (view l.ws l.m (7 * l.m) (11 * l.m)) (rec_at l.ws l.m (7 * l.m) (11 * l.m) l.i) l.r-items (record { size = 65536; id = get_or l.ws l.i 0 }) ≡ picked_f (view l.ws l.m (7 * l.m) (11 * l.m)) (rec_at l.ws l.m (7 * l.m) (11 * l.m) l.i) (drop l.r-index l.r-items) (record { size = l.best.size; id = l.best.id }))
