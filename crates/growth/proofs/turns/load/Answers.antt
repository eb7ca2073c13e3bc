-- Each of the two calls gives the stacks that the rule loads (LoadLaws); the part that is lent is that of the eight stacks.
use Prim.Native.Nat.{◌+◌}
use native.Mathlib.Omega.{arith}
use native.Mathlib.Nat.{mod-lt}
use Rattle.growth.proofs.LoadLaws.{sort_lists, append-part, left_fits, left_stacked, loaded-sorted, loaded-appended}
use Rattle.growth.proofs.turns.load.Goals as goal

pub offset_bounds-ws-n : goal.offset_bounds-ws-n
offset_bounds-ws-n c = omega (arith, c.requires.area_len_bound.0)

pub slice_bounds-sort_cells_by_level-count : goal.slice_bounds-sort_cells_by_level-count
slice_bounds-sort_cells_by_level-count c = omega (arith, c.requires.sections_for.0.changes)

pub slice_bounds-sort_cells_by_level-start : goal.slice_bounds-sort_cells_by_level-start
slice_bounds-sort_cells_by_level-start c = omega (arith, c.requires.sections_for.0.changes)

pub slice_bounds-sort_cells_by_level-end : goal.slice_bounds-sort_cells_by_level-end
slice_bounds-sort_cells_by_level-end c = omega (arith, c.requires.sections_for.0.changes, c.requires.sections_for.0.past, c.requires.sections_for.1)

pub sort_cells_by_level-requires : goal.sort_cells_by_level-requires
sort_cells_by_level-requires c = sort_lists c.args.area.now c.args.dist.now c.args.ids.now c.args.at c.args.level c.args.l.fills c.args.l.turn c.args.ws.now c.requires.sections_for.0 c.requires.sections_for.1 c.requires.area_len_bound.0 c.requires.area_len_bound.1 c.requires.area_len_bound.2

pub returns-then-j-eq0 : goal.returns-then-j-eq0
returns-then-j-eq0 c = loaded-sorted _ _ _ _ _ _ _ _ c.requires.sections_for.0 c.requires.sections_for.1 _ _ _ c.sort_cells_by_level.auto.stacks c.if-j-eq0.true c.sort_cells_by_level.ensures.fills_after c.sort_cells_by_level.ensures.kept c.sort_cells_by_level.ensures.fact c.sort_cells_by_level.ensures.turn_value

pub offset_bounds-ws-n-2 : goal.offset_bounds-ws-n-2
offset_bounds-ws-n-2 c = omega (arith, c.requires.area_len_bound.0)

pub slice_bounds-append_stacks-count : goal.slice_bounds-append_stacks-count
slice_bounds-append_stacks-count c = omega (arith, c.requires.sections_for.0.changes)

pub slice_bounds-append_stacks-start : goal.slice_bounds-append_stacks-start
slice_bounds-append_stacks-start c = omega (arith, c.requires.sections_for.0.changes)

pub slice_bounds-append_stacks-end : goal.slice_bounds-append_stacks-end
slice_bounds-append_stacks-end c = omega (arith, c.requires.sections_for.0.changes, c.requires.sections_for.0.past, c.requires.sections_for.1)

pub append_stacks-requires : goal.append_stacks-requires
append_stacks-requires c = record {
  stack_part = (
    append-part c.args.area.now c.args.dist.now c.args.ids.now c.args.at c.args.level c.args.l.fills c.args.l.turn c.args.ws.now c.requires.sections_for.0 c.requires.sections_for.1 c.requires.area_len_bound.0 c.requires.area_len_bound.2,
    left_fits c.args.area.now c.args.dist.now c.args.ids.now c.args.at c.args.level c.args.l.fills c.args.l.turn c.args.ws.now c.requires.sections_for.0 c.requires.sections_for.1 c.requires.area_len_bound.2 c.if-j-eq0.false c.requires.sections_for.3,
    omega (arith, c.if-j-eq0.false),
    mod-lt (c.args.l.turn + 1) (omega arith),
  );
  stacked = left_stacked c.args.area.now c.args.dist.now c.args.ids.now c.args.at c.args.level c.args.l.fills c.args.l.turn c.args.ws.now c.requires.sections_for.0 c.requires.sections_for.1 c.requires.sections_for.2 c.requires.area_len_bound.2 c.if-j-eq0.false c.requires.sections_for.3;
}

pub returns : goal.returns
returns c = loaded-appended _ _ _ _ _ _ _ _ c.requires.sections_for.0 c.requires.sections_for.1 _ _ _ c.append_stacks.auto.stacks c.requires.sections_for.2 c.requires.area_len_bound.2 c.if-j-eq0.false c.append_stacks.ensures.fills_after c.append_stacks.ensures.kept c.append_stacks.ensures.fact c.append_stacks.ensures.turn_value
