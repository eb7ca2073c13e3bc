-- `merge::pick::pick_one` meets its contract. By cases: a flagged entry, and one that is not better, change nothing.
use Rattle.merge.proofs.PickLaws.{pick-flagged, pick-stays, pick_moves}
use mathlib.Core.Path.{refl}
use Rattle.merge.proofs.pick.pick_one.Goals as goal
use Rattle.merge.proofs.pick.pick_one.Goals.{else-r-via-then-r+else-better, else-r-via-else-r}

pub returns-then-better-clause-id_value : goal.returns-then-better-clause-id_value
returns-then-better-clause-id_value c = pick_moves _ _ _ _ _ _ _ c.if-r.true _ c.better.ensures c.if-better.true _ refl

pub returns-else-r-clause-id_value : goal.returns-else-r-clause-id_value
returns-else-r-clause-id_value c = elim c.else-r.branch [
  | else-r-via-then-r+else-better w ↦ pick-stays _ _ _ _ _ _ _ w.if-r.true _ w.better.ensures w.if-better.false
  | else-r-via-else-r w ↦ pick-flagged _ _ _ _ _ _ _ w.if-r.false
]
