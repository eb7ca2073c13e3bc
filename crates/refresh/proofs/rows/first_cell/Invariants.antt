-- Invariant: the cells before number x are empty.
use Prim.Native.Nat.{◌≤◌, ◌-◌}
use Rattle.refresh.proofs.Parts.{Empty_to}
use Rattle.refresh.proofs.rows.first_cell.Given as goal

abbrev pub invariant-loop-x : goal.invariant-loop-x
invariant-loop-x l = (l.x ≤ l.w) × Empty_to l.count l.c l.x

abbrev pub decreases-loop-x : goal.decreases-loop-x
decreases-loop-x l = l.w - l.x
