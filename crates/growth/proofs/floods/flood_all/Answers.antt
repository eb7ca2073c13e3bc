-- The answers that the check does not find alone.
use Prim.Native.Nat.{◌≤◌}
use mathlib.Core.Path.{◌∙◌, refl}
use native.Mathlib.Omega.{arith}
use lib.ListN.{length}
use Rattle.flood.proofs.Pushes.{placed_kept}
use Rattle.growth.proofs.FloodLaws.{flooded_start, flooded_lent, flooded_at, flooded_entry, flag_not, flooded_next, flooded_out, flooded_end, blank_past, told-start, told_next, told-end}
use Rattle.growth.proofs.floods.flood_all.Goals as goal

pub loop-j-init : goal.loop-j-init
loop-j-init c = let past : length c.args.area.now ≤ c.args.at.table = omega (arith, c.requires.lent.1.low, c.requires.lent.1.apart) in
    (flooded_start _ _ _ _ _ _ _ _ _ _ c.requires.lent.0 c.requires.entries_at past c.requires.blank.1, told-start _ _ _ _ _ _ _ _ _ _ c.requires.lent.0 c.requires.entries_at past _)

pub overflow_add-entry : goal.overflow_add-entry
overflow_add-entry c = omega (arith, c.loop-j-test.true, c.requires.entries_at.close, c.requires.entries_at.entries.filled, c.requires.lent.0.closed.few)

pub bounds-ws-stack : goal.bounds-ws-stack
bounds-ws-stack c = let past : length c.args.area.now ≤ c.args.at.table = omega (arith, c.requires.lent.1.low, c.requires.lent.1.apart) in
    flooded_at _ _ _ _ _ _ _ _ _ _ c.requires.lent.0 c.requires.entries_at past _ _ _ _ c.loop-j.invariant.0 c.loop-j-test.true

pub flood_one-f-requires : goal.flood_one-f-requires
flood_one-f-requires c = let past : length c.args.area.now ≤ c.args.at.table = omega (arith, c.requires.lent.1.low, c.requires.lent.1.apart) in
    record {
      lent = (flooded_lent _ _ _ _ _ _ _ _ _ _ c.requires.lent.0 c.requires.entries_at past _ _ _ _ c.loop-j.invariant.0, placed_kept _ c.requires.lent.1 c.loop-j.invariant.0.size₁);
      blank = (blank_past _ _ _ _ _ c.requires.lent.1.low c.loop-j.invariant.0.past c.requires.blank.0, c.loop-j.invariant.0.ids_below);
      span = flooded_entry _ _ _ _ _ _ _ _ _ _ c.requires.lent.0 c.requires.entries_at past _ _ _ _ c.loop-j.invariant.0 _ c.loop-j-test.true refl;
    }

pub loop-j-preserved : goal.loop-j-preserved
loop-j-preserved c = let past : length c.args.area.now ≤ c.args.at.table = omega (arith, c.requires.lent.1.low, c.requires.lent.1.apart) in (
  flooded_next _ _ _ _ _ _ _ _ _ _ c.requires.lent.0 c.requires.entries_at past _ _ _ _ c.loop-j.invariant.0 _ _ _ _ c.loop-j-test.true refl
      c.flood_one-f.auto.ids c.flood_one-f.auto.ws c.flood_one-f.ensures.next_after c.flood_one-f.ensures.fact.0 (c.flood_one-f.ensures.fact.2 (flag_not _ c.flood_one-f.ensures.fact.1 c.if-f.false)),
  told_next _ _ _ _ _ _ _ _ _ _ c.requires.lent.0 c.requires.entries_at past _ _ _ _ c.loop-j.invariant.0 _ _ _ _ c.loop-j-test.true refl
      c.flood_one-f.auto.ids c.flood_one-f.auto.ws c.flood_one-f.ensures.next_after c.flood_one-f.ensures.fact.0 _ _ _ c.loop-j.invariant.1 c.flood_one-f.ensures.story_value,
)

pub shape_of-ids-then-f : goal.shape_of-ids-then-f
shape_of-ids-then-f c = c.flood_one-f.auto.ids ∙ c.loop-j.invariant.0.size₁

pub shape_of-ws-then-f : goal.shape_of-ws-then-f
shape_of-ws-then-f c = c.flood_one-f.auto.ws ∙ c.loop-j.invariant.0.size₂

pub returns-then-f : goal.returns-then-f
returns-then-f c = let past : length c.args.area.now ≤ c.args.at.table = omega (arith, c.requires.lent.1.low, c.requires.lent.1.apart) in
    record {
      fact = flooded_out _ _ _ _ _ _ _ _ _ _ c.requires.lent.0 c.requires.entries_at past _ _ _ _ c.loop-j.invariant.0 _ _ _ _ c.loop-j-test.true refl
          c.flood_one-f.auto.ids c.flood_one-f.auto.ws c.flood_one-f.ensures.next_after c.flood_one-f.ensures.fact.0 c.if-f.true;
      story_value = λ z. absurd (z c.if-f.true);
    }

pub shape_of-ids : goal.shape_of-ids
shape_of-ids c = c.loop-j.invariant.0.size₁

pub shape_of-ws : goal.shape_of-ws
shape_of-ws c = c.loop-j.invariant.0.size₂

pub returns : goal.returns
returns c = let past : length c.args.area.now ≤ c.args.at.table = omega (arith, c.requires.lent.1.low, c.requires.lent.1.apart) in
    record {
      fact = flooded_end _ _ _ _ _ _ _ _ _ _ c.requires.lent.0 c.requires.entries_at past _ _ _ _ c.loop-j.invariant.0 c.loop-j-test.false;
      story_value = λ _. told-end _ _ _ _ _ _ _ _ _ _ c.requires.lent.0 c.requires.entries_at past _ _ _ _ c.loop-j.invariant.0 _ _ c.loop-j.invariant.1 c.loop-j-test.false;
    }
