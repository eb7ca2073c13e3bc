-- Record i is renewed: its number, count 0, an empty list, and its floors' room where the rooms before it end.
-- Each store is in a column or table of its own, so what was renewed before stays.
use Prim.Native.Nat.{◌+◌, ◌≤◌}
use mathlib.Core.Path.{◌≡◌, refl, ◌∙◌}
use lib.ListN.{length, set, length-set}
use Rattle.rules.specs.Refusals.{most_spans}
use Rattle.records.proofs.CountLaws.{slot_room}
use Rattle.records.proofs.FreshLaws.{floors_fit, renewed_one}
use native.Mathlib.Omega.{arith}
use Rattle.records.proofs.fresh.renew_one.Goals as goal

pub overflow_mul-floors-3 : goal.overflow_mul-floors-3
overflow_mul-floors-3 c = let lower-few : c.args.lower ≤ most_spans = omega (arith, c.requires.renewed.2, c.requires.m_le_border.1, slot_room c.args.ids.now c.args.i) in
    omega (arith, lower-few)

pub overflow_add-floors-2 : goal.overflow_add-floors-2
overflow_add-floors-2 c = let lower-few : c.args.lower ≤ most_spans = omega (arith, c.requires.renewed.2, c.requires.m_le_border.1, slot_room c.args.ids.now c.args.i) in
    omega (arith, lower-few, c.requires.m_le_border.0, c.requires.m_le_border.1)

pub bounds-ws-m-2 : goal.bounds-ws-m-2
bounds-ws-m-2 c = simp length-set (omega (arith, c.requires.m_le_border.2, c.requires.renewed.1))

pub set_part-requires : goal.set_part-requires
set_part-requires c = record {
  m_in_bounds = simp length-set (omega (arith, c.requires.m_le_border.2));
  r_lt_m = c.requires.renewed.1;
  a_lt_wide_end = (omega (arith, c.requires.m_le_border.0), omega (arith, c.requires.m_le_border.0));
}

pub set_part-requires-2 : goal.set_part-requires-2
set_part-requires-2 c = let two_stores : length (set (set c.args.ws.now c.args.i c.args.i) (c.args.m + c.args.i) 0) ≡ length c.args.ws.now = simp length-set in
    let q = floors_fit _ _ _ _ c.requires.renewed.0 c.requires.renewed.1 _ _ c.requires.renewed.2 refl c.requires.m_le_border.0 c.requires.m_le_border.1 c.requires.m_le_border.2 in
    record {
      m_in_bounds = omega (arith, c.set_part.auto.ws, two_stores, c.requires.m_le_border.2);
      r_lt_m = c.requires.renewed.1;
      a_lt_wide_end = (q, q);
    }

pub shape_of-ws : goal.shape_of-ws
shape_of-ws c = let two_stores : length (set (set c.args.ws.now c.args.i c.args.i) (c.args.m + c.args.i) 0) ≡ length c.args.ws.now = simp length-set in
    c.set_part-2.auto.ws ∙ c.set_part.auto.ws ∙ two_stores

pub returns : goal.returns
returns c = (renewed_one _ _ _ _ c.requires.renewed.0 c.requires.renewed.1 _ _ c.requires.renewed.2 refl c.requires.m_le_border.0 c.requires.m_le_border.1 c.requires.m_le_border.2 _ _ _ refl c.set_part.ensures c.set_part.auto.ws c.set_part-2.ensures c.set_part-2.auto.ws, c.requires.renewed.0.counts _ (omega arith) c.requires.renewed.1)
