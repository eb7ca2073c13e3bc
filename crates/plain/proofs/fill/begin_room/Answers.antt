-- Under what has been tested by each return, ids and number are the rule's (Numbered).
use native.Mathlib.Omega.{arith}
use mathlib.Core.Path.{refl}
use Rattle.plain.proofs.Joining.{few}
use Rattle.plain.proofs.Numbered.{begin_bare, begin_none, begin_new}
use Rattle.plain.proofs.fill.begin_room.Goals as goal

pub returns-then-area-s-eq0 : goal.returns-then-area-s-eq0
returns-then-area-s-eq0 c = record {
  result_after = begin_bare _ _ _ _ _ _ c.requires.2 c.if-area-s-eq0.true;
  ws_unchanged = refl;
}

pub returns-then-ids-s-ne0 : goal.returns-then-ids-s-ne0
returns-then-ids-s-ne0 c = record {
  result_after = begin_none _ _ _ _ _ _ c.requires.2 c.if-ids-s-ne0.true c.if-area-s-eq0.false;
  ws_unchanged = refl;
}

pub overflow_add-most : goal.overflow_add-most
overflow_add-most c = omega (arith, c.requires.2, c.requires.3, few _ _ _ c.requires.0)

pub fill_room-requires : goal.fill_room-requires
fill_room-requires c = (c.requires.0, record { size = c.requires.1; span = c.requires.2; empty = c.if-ids-s-ne0.false }, omega arith)

pub overflow_add-result : goal.overflow_add-result
overflow_add-result c = omega (arith, c.requires.2, c.requires.3, few _ _ _ c.requires.0)

pub returns : goal.returns
returns c = record {
  result_after = begin_new _ _ _ _ _ _ c.requires.2 c.if-area-s-eq0.false c.if-ids-s-ne0.false _ c.fill_room.ensures.ids_after;
  ws_unchanged = c.fill_room.ensures.ws_unchanged;
}
