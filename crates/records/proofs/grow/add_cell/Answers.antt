-- `add_cell` is the rule's `celled`: one more span, then floors, then overlap, each a step on record r.
-- Counting first gives the floors of this span their room; what the record has already, all or from a prior cell (KnownLaws), is not looked for.
use lib.ListN.{length-set}
use Prim.Native.Nat.{◌<◌}
use mathlib.Core.Path.{refl, ◌∙◌}
use lib.ListN.{length}
use Rattle.records.proofs.ContourLaws.{own_in, count_fits, counted_keeping, counted_slack, counted_prior, took_known, cell_known, cell-step}
use native.Mathlib.Omega.{arith}
use Rattle.records.proofs.grow.add_cell.Goals as goal

pub overflow_add-ws : goal.overflow_add-ws
overflow_add-ws c = omega (arith, own_in _ _ _ _ _ c.requires.keeping.0 _ 0 0 c.requires.r_value.0 c.requires.r_value.1 (omega (arith, c.requires.keeping.1.inside, c.requires.keeping.1.upper)), c.requires.keeping.0.few)

pub offset_bounds-ws-m : goal.offset_bounds-ws-m
offset_bounds-ws-m c = omega (arith, own_in _ _ _ _ _ c.requires.keeping.0 _ 0 0 c.requires.r_value.0 c.requires.r_value.1 (omega (arith, c.requires.keeping.1.inside, c.requires.keeping.1.upper)), c.requires.keeping.0.few)

pub bounds-ws-m : goal.bounds-ws-m
bounds-ws-m c = let here : c.args.span.0 < length c.args.ids.now = omega (arith, c.requires.keeping.1.inside, c.requires.keeping.1.upper) in
    omega (arith, own_in _ _ _ _ _ c.requires.keeping.0 _ 0 0 c.requires.r_value.0 c.requires.r_value.1 here, c.requires.keeping.0.room)

pub overflow_add-ws-2 : goal.overflow_add-ws-2
overflow_add-ws-2 c = let here : c.args.span.0 < length c.args.ids.now = omega (arith, c.requires.keeping.1.inside, c.requires.keeping.1.upper) in
    omega (arith, count_fits _ _ _ _ _ c.requires.keeping.0 _ 0 0 c.requires.r_value.0 c.requires.r_value.1 here)

pub bounds-ws-m-2 : goal.bounds-ws-m-2
bounds-ws-m-2 c = let here : c.args.span.0 < length c.args.ids.now = omega (arith, c.requires.keeping.1.inside, c.requires.keeping.1.upper) in
    omega (arith, own_in _ _ _ _ _ c.requires.keeping.0 _ 0 0 c.requires.r_value.0 c.requires.r_value.1 here, c.requires.keeping.0.room)

pub shape_of-ws-then-prior-cell : goal.shape_of-ws-then-prior-cell
shape_of-ws-then-prior-cell c = simp length-set

pub returns-then-prior-cell : goal.returns-then-prior-cell
returns-then-prior-cell c = let here : c.args.span.0 < length c.args.ids.now = omega (arith, c.requires.keeping.1.inside, c.requires.keeping.1.upper) in
    let k = took_known _ _ _ _ _ c.requires.keeping.0 _ 0 0 c.requires.r_value.0 c.requires.r_value.1 here _ _ c.requires.keeping.1 c.requires.knowing_from c.if-prior-cell.true in
    cell_known _ _ _ _ _ c.requires.keeping.0 _ _ _ c.requires.r_value.0 c.requires.r_value.1 here k

pub add_floors-twin-requires : goal.add_floors-twin-requires
add_floors-twin-requires c = let here : c.args.span.0 < length c.args.ids.now = omega (arith, c.requires.keeping.1.inside, c.requires.keeping.1.upper) in
    record {
      keeping = (
        counted_keeping _ _ _ _ _ c.requires.keeping.0 _ 0 0 c.requires.r_value.0 c.requires.r_value.1 here _ refl,
        own_in _ _ _ _ _ c.requires.keeping.0 _ 0 0 c.requires.r_value.0 c.requires.r_value.1 here,
        counted_slack _ _ _ _ _ c.requires.keeping.0 _ 0 0 c.requires.r_value.0 c.requires.r_value.1 here _ refl,
        c.requires.keeping.1,
      );
      lies = λ n. (c.requires.knowing_from.knowing n).lies;
      prior = ((λ n. counted_prior _ _ _ _ _ c.requires.keeping.0 _ 0 0 c.requires.r_value.0 c.requires.r_value.1 here _ refl _ _ c.requires.keeping.1 (c.requires.knowing_from.knowing n)), c.requires.knowing_from.place);
    }

pub add_overlap-requires : goal.add_overlap-requires
add_overlap-requires c = let here : c.args.span.0 < length c.args.ids.now = omega (arith, c.requires.keeping.1.inside, c.requires.keeping.1.upper) in
    (own_in _ _ _ _ _ c.requires.keeping.0 _ 0 0 c.requires.r_value.0 c.requires.r_value.1 here, omega (arith, c.add_floors-twin.ensures.fact.keeping.room))

pub shape_of-ws : goal.shape_of-ws
shape_of-ws c = c.add_overlap.auto.ws ∙ c.add_floors-twin.auto.ws ∙ simp length-set

pub returns : goal.returns
returns c = let here : c.args.span.0 < length c.args.ids.now = omega (arith, c.requires.keeping.1.inside, c.requires.keeping.1.upper) in
    cell-step _ _ _ _ _ c.requires.keeping.0 _ _ _ c.requires.r_value.0 c.requires.r_value.1 here _ refl _ _ _ c.add_floors-twin.ensures.fact c.add_floors-twin.ensures.result_value c.add_overlap.ensures
