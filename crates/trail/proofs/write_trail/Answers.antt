-- The ids left, and the id reached past them, are the trail (Steps).
use native.Mathlib.Omega.{arith}
use mathlib.Core.Path.{refl}
use Rattle.trail.proofs.Steps.{follow_room, last-place, trail-place, trail_list}
use Rattle.trail.proofs.write_trail.Goals as goal

pub follow-last-requires : goal.follow-last-requires
follow-last-requires c = follow_room _ _ _ _ _ _ c.requires.0 c.requires.1

pub offset_bounds-list-end : goal.offset_bounds-list-end
offset_bounds-list-end c = omega (arith, last-place _ _ _ _ _ _ _ _ _ c.follow-last.ensures c.requires.1 c.follow-last.auto.list)

pub bounds-list-end : goal.bounds-list-end
bounds-list-end c = last-place _ _ _ _ _ _ _ _ _ c.follow-last.ensures c.requires.1 c.follow-last.auto.list

pub overflow_add-result : goal.overflow_add-result
overflow_add-result c = omega (arith, last-place _ _ _ _ _ _ _ _ _ c.follow-last.ensures c.requires.1 c.follow-last.auto.list)

pub returns : goal.returns
returns c = record {
  value = trail-place _ _ _ _ _ _ _ _ _ c.follow-last.ensures;
  list_after = trail_list _ _ _ _ _ _ _ _ _ c.follow-last.ensures _ refl c.requires.1 c.follow-last.auto.list _ refl;
}
