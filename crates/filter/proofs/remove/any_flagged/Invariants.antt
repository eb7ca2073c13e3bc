-- `filter::remove::any_flagged` meets its contract. The loop's invariant: the rest of the group answers for the whole.
use Prim.Native.Nat.{◌+◌, ◌*◌, ◌≤◌}
use mathlib.Core.Path.{◌≡◌}
use Rattle.table.specs.View.{part, recs_of}
use Rattle.filter.specs.Group.{any_flagged}
use Rattle.filter.proofs.remove.any_flagged.Given as goal

abbrev pub invariant-loop-k : goal.invariant-loop-k
invariant-loop-k l = (l.k ≤ l.f) × (any_flagged (recs_of l.ws l.m) (part (6 * l.m) (6 * l.m + l.f) l.ws) ≡ any_flagged (recs_of l.ws l.m) (part (6 * l.m + l.k) (6 * l.m + l.f) l.ws))
