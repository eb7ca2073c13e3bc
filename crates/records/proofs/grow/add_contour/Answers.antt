-- `add_contour` is the rule's `contoured`: a record with a list stays; one without takes the area and the traced list.
-- The store of the area leaves the tables, the pool and the net alone.
use mathlib.Core.Path.{◌≡◌, refl, ◌∙◌}
use lib.ListN.{length-set}
use Rattle.table.specs.View.{start_of, end_of}
use Rattle.table.specs.Map.{lists_at}
use Rattle.records.proofs.RowLaws.{list_parts}
use Rattle.records.proofs.ContourLaws.{contour_there, none_after, area_keeping, area_tracing, contour-taken}
use native.Mathlib.Omega.{arith}
use Rattle.records.proofs.grow.add_contour.Goals as goal

pub start_of-requires : goal.start_of-requires
start_of-requires c = (list_parts _ _ _ _ _ c.requires.keeping, c.requires.r_value.1)

pub end_of-requires : goal.end_of-requires
end_of-requires c = (list_parts _ _ _ _ _ c.requires.keeping, c.requires.r_value.1)

pub returns-then-start_of-end_of : goal.returns-then-start_of-end_of
returns-then-start_of-end_of c = let ea : c.start_of.result ≡ start_of c.args.ws.now c.args.plan.records (lists_at c.args.plan.records) c.args.r = c.start_of.ensures.0 in
    let ee : c.end_of.result ≡ end_of c.args.ws.now c.args.plan.records (lists_at c.args.plan.records) c.args.r = c.end_of.ensures.0 in
    contour_there _ _ _ _ _ c.requires.keeping _ c.requires.r_value.1 _ _ ea ee c.if-start_of-end_of.true _ _

pub bounds-area-span : goal.bounds-area-span
bounds-area-span c = omega (arith, c.requires.reach.span, c.requires.reach.sized)

pub overflow_mul-ws : goal.overflow_mul-ws
overflow_mul-ws c = omega (arith, c.requires.keeping.few)

pub overflow_add-ws : goal.overflow_add-ws
overflow_add-ws c = omega (arith, c.requires.keeping.few, c.requires.r_value.1)

pub offset_bounds-ws-m : goal.offset_bounds-ws-m
offset_bounds-ws-m c = omega (arith, c.requires.keeping.few, c.requires.r_value.1)

pub bounds-ws-m : goal.bounds-ws-m
bounds-ws-m c = omega (arith, c.requires.keeping.room, c.requires.r_value.1)

pub add_list-requires : goal.add_list-requires
add_list-requires c = let ea : c.start_of.result ≡ start_of c.args.ws.now c.args.plan.records (lists_at c.args.plan.records) c.args.r = c.start_of.ensures.0 in
    let ee : c.end_of.result ≡ end_of c.args.ws.now c.args.plan.records (lists_at c.args.plan.records) c.args.r = c.end_of.ensures.0 in
    record {
      start = area_tracing _ _ _ _ _ c.requires.keeping _ c.requires.r_value.1 _ _ ea ee c.if-start_of-end_of.false _ _ _ _ _ c.requires.reach c.requires.r_value.0 c.requires.r_value.2;
      keeping = (area_keeping _ _ _ _ _ c.requires.keeping _ c.requires.r_value.1 _ _ ea ee c.if-start_of-end_of.false _, c.requires.r_value.0, c.requires.r_value.1);
      r_bound = none_after _ _ _ _ _ c.requires.keeping _ c.requires.r_value.1 _ _ ea ee c.if-start_of-end_of.false _;
    }

pub shape_of-ws : goal.shape_of-ws
shape_of-ws c = c.add_list.auto.ws ∙ simp length-set

pub returns : goal.returns
returns c = let ea : c.start_of.result ≡ start_of c.args.ws.now c.args.plan.records (lists_at c.args.plan.records) c.args.r = c.start_of.ensures.0 in
    let ee : c.end_of.result ≡ end_of c.args.ws.now c.args.plan.records (lists_at c.args.plan.records) c.args.r = c.end_of.ensures.0 in
    contour-taken _ _ _ _ _ c.requires.keeping _ c.requires.r_value.1 _ _ ea ee c.if-start_of-end_of.false _ _ _ _ _ c.requires.reach c.requires.r_value.0 _ refl _ c.add_list.ensures
