-- Both cells have spans, as many, so they lie among the ids, and what `==` finds of their parts is what the layers have (CellLaws).
use Prim.Native.Nat.{◌+◌, ◌≤◌}
use native.Mathlib.Omega.{arith}
use mathlib.Core.Path.{refl, sym, ◌∙◌}
use lib.ListN.{length}
use lib.Pointwise.{bytes_decides}
use Rattle.records.proofs.CellLaws.{alike_ids}
use Rattle.records.proofs.cell.alike.Goals as goal

pub overflow_add-b : goal.overflow_add-b
overflow_add-b c = let lies : c.args.cell.from + c.args.cell.size ≤ length c.args.ids.now = c.requires.2.inside c.requires.3 in
    omega (arith, lies, c.requires.0)

pub offset_bounds-ids-b : goal.offset_bounds-ids-b
offset_bounds-ids-b c = let lies : c.args.cell.from + c.args.cell.size ≤ length c.args.ids.now = c.requires.2.inside c.requires.3 in
    omega (arith, lies, c.requires.0)

pub slice_bounds-eq-end : goal.slice_bounds-eq-end
slice_bounds-eq-end c = let lies : c.args.cell.from + c.args.cell.size ≤ length c.args.ids.now = c.requires.2.inside c.requires.3 in
    lies

pub overflow_add-a : goal.overflow_add-a
overflow_add-a c = let lies : c.args.cell.from + c.args.cell.size ≤ length c.args.ids.now = c.requires.2.inside c.requires.3 in
    let lies-last : c.args.last.from + c.args.cell.size ≤ length c.args.ids.now = omega (arith, c.requires.4, c.requires.1.inside (omega (arith, c.requires.4, c.requires.3))) in
    omega (arith, lies, lies-last, c.requires.0)

pub offset_bounds-ids-a : goal.offset_bounds-ids-a
offset_bounds-ids-a c = let lies : c.args.cell.from + c.args.cell.size ≤ length c.args.ids.now = c.requires.2.inside c.requires.3 in
    let lies-last : c.args.last.from + c.args.cell.size ≤ length c.args.ids.now = omega (arith, c.requires.4, c.requires.1.inside (omega (arith, c.requires.4, c.requires.3))) in
    omega (arith, lies, lies-last, c.requires.0)

pub slice_bounds-eq-end-2 : goal.slice_bounds-eq-end-2
slice_bounds-eq-end-2 c = let lies : c.args.cell.from + c.args.cell.size ≤ length c.args.ids.now = c.requires.2.inside c.requires.3 in
    let lies-last : c.args.last.from + c.args.cell.size ≤ length c.args.ids.now = omega (arith, c.requires.4, c.requires.1.inside (omega (arith, c.requires.4, c.requires.3))) in
    omega (arith, lies, lies-last)

pub returns : goal.returns
returns c = λ e. alike_ids _ _ _ _ c.requires.4 refl (sym ((bytes_decides _ _).0 (sym c.eq.ensures ∙ e)))
