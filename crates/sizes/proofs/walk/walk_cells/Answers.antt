-- The answers that the check does not find alone.
use mathlib.Core.Path.{refl}
use Rattle.laws.proofs.Passes.{wide_pos}
use Rattle.sizes.proofs.WalkLaws.{rest_le, part_le, walked_none, walked_next, walked_fits, walked_all}
use native.Mathlib.Omega.{arith}
use Rattle.sizes.proofs.walk.walk_cells.Goals as goal

pub loop-c-init : goal.loop-c-init
loop-c-init c = walked_none _ _ _ _ _ _ _ _ c.requires.0 _ c.no_extent-seen.ensures

pub bounds-field-c : goal.bounds-field-c
bounds-field-c c = omega (arith, c.loop-c-test.true, c.requires.0.counted)

pub nonzero_rem-x : goal.nonzero_rem-x
nonzero_rem-x c = omega (arith, wide_pos c.args.field.now.w c.args.field.now.h c.loop-c.c c.loop-c-test.true)

pub overflow_cast-x : goal.overflow_cast-x
overflow_cast-x c = omega (arith, c.loop-c-test.true, c.requires.0.grid, rest_le c.loop-c.c c.args.field.now.w)

pub nonzero_div-z : goal.nonzero_div-z
nonzero_div-z c = omega (arith, wide_pos c.args.field.now.w c.args.field.now.h c.loop-c.c c.loop-c-test.true)

pub overflow_cast-z : goal.overflow_cast-z
overflow_cast-z c = omega (arith, c.loop-c-test.true, c.requires.0.grid, part_le c.loop-c.c c.args.field.now.w)

pub walk_cell-seen-requires : goal.walk_cell-seen-requires
walk_cell-seen-requires c = record {
  spans_in_bounds = (walked_fits _ _ _ _ _ _ _ _ c.requires.0 _ _ _ c.loop-c.invariant c.loop-c-test.true _ refl, c.requires.1, c.requires.0.few);
  count_le_first = (c.loop-c.invariant.low, omega (arith, c.loop-c-test.true, c.requires.0.grid, rest_le c.loop-c.c c.args.field.now.w), omega (arith, c.loop-c-test.true, c.requires.0.grid, part_le c.loop-c.c c.args.field.now.w));
}

pub overflow_add-first : goal.overflow_add-first
overflow_add-first c = omega (arith, walked_fits _ _ _ _ _ _ _ _ c.requires.0 _ _ _ c.loop-c.invariant c.loop-c-test.true _ refl, c.requires.0.few)

pub loop-c-preserved : goal.loop-c-preserved
loop-c-preserved c = walked_next _ _ _ _ _ _ _ _ c.requires.0 _ _ _ c.loop-c.invariant c.loop-c-test.true _ _ _ refl refl refl _ c.walk_cell-seen.ensures

pub returns : goal.returns
returns c = walked_all _ _ _ _ _ _ _ _ c.requires.0 _ _ _ c.loop-c.invariant c.loop-c-test.false
