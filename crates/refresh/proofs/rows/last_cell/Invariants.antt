-- Invariant: the cells from number x on are empty.
use Prim.Native.Nat.{◌≤◌}
use Rattle.refresh.proofs.Parts.{Empty_from}
use Rattle.refresh.proofs.rows.last_cell.Given as goal

abbrev pub invariant-loop-x : goal.invariant-loop-x
invariant-loop-x l = (l.x ≤ l.w) × Empty_from l.count l.c l.w l.x

abbrev pub decreases-loop-x : goal.decreases-loop-x
decreases-loop-x l = l.x
