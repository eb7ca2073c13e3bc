-- `filter::gather::reach` meets its contract. The loop's invariant: to go on with the entries from k on gives what the whole list gives.
-- The list lies past the columns, so the stores of a turn do not touch it.
use lib.ListN.{length}
use Prim.Native.Nat.{ℕ, ◌*◌, ◌≤◌}
use mathlib.Core.Path.{◌≡◌}
use Rattle.rules.specs.Filter.{reach}
use Rattle.space.specs.Space.{Frame}
use Rattle.table.specs.View.{part, start_of, list_at}
use Rattle.filter.specs.Group.{group_at, Waiting}
use Rattle.filter.proofs.gather.reach.Given as goal

abbrev pub invariant-loop-k : goal.invariant-loop-k
invariant-loop-k l = (start_of l.initial.ws l.m (7 * l.m) l.i ≤ l.k) × (l.k ≤ l.e) × (length l.ws ≡ length l.initial.ws) × Waiting l.m l.n l.ws × Frame (4 * l.m) (6 * l.m) l.initial.ws l.ws
    × ((f : ℕ) → reach (list_at l.initial.ws l.m (7 * l.m) l.i) (group_at l.initial.ws l.m l.top f) ≡ reach (part l.k l.e l.ws) (group_at l.ws l.m l.n f))
