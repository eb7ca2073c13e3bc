-- `filter::remove::remove_all` meets its contract. The loop's invariant: to remove the rest from the records as they are gives what the rule gives.
-- A removal writes below 2m, so the found ones stay.
use Prim.Native.Nat.{◌+◌, ◌*◌, ◌≤◌}
use mathlib.Core.Path.{◌≡◌}
use lib.ListN.{length}
use Rattle.rules.specs.Filter.{remove_all}
use Rattle.space.specs.Space.{Frame}
use Rattle.table.specs.View.{part, recs_of, Held}
use Rattle.filter.proofs.remove.remove_all.Given as goal

abbrev pub invariant-loop-k : goal.invariant-loop-k
invariant-loop-k l = (l.k ≤ l.f) × (length l.ws ≡ length l.initial.ws) × Held l.m (7 * l.m) (11 * l.m) l.ws × Frame 0 (2 * l.m) l.initial.ws l.ws
    × (remove_all (part (6 * l.m) (6 * l.m + l.f) l.initial.ws) (recs_of l.initial.ws l.m) ≡ remove_all (part (6 * l.m + l.k) (6 * l.m + l.f) l.ws) (recs_of l.ws l.m))
