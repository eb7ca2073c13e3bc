-- `table::search::pass_over` meets its contract. The loop's invariant: the place in the whole is i and the place in the rest, since no
-- block so far holds r.
use Prim.Native.Nat.{◌≤◌, ◌-◌, ◌+◌}
use mathlib.Core.Path.{◌≡◌}
use lib.ListN.{length, drop}
use Rattle.rules.specs.Merge.{place}
use Rattle.table.proofs.search.pass_over.Given as goal

abbrev pub invariant-loop-i : goal.invariant-loop-i
invariant-loop-i l = (l.i ≤ length l.l) × (place l.l l.r ≡ l.i + place (drop l.i l.l) l.r)

abbrev pub decreases-loop-i : goal.decreases-loop-i
decreases-loop-i l = length l.l - l.i
