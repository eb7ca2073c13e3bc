-- `filter::remove::total` meets its contract. The loop's invariant: the sum so far and the total of the rest are the whole total.
use Prim.Native.Nat.{◌+◌, ◌*◌, ◌≤◌}
use mathlib.Core.Path.{◌≡◌}
use Rattle.rules.specs.Filter.{total}
use Rattle.table.specs.View.{part, recs_of}
use Rattle.filter.proofs.remove.total.Given as goal

abbrev pub invariant-loop-k : goal.invariant-loop-k
invariant-loop-k l = (l.k ≤ l.f) × (l.sum ≤ 65536 * l.k) × (l.sum + total (recs_of l.ws l.m) (part (6 * l.m + l.k) (6 * l.m + l.f) l.ws) ≡ total (recs_of l.ws l.m) (part (6 * l.m) (6 * l.m + l.f) l.ws))
