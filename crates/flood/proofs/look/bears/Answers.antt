-- A span that is none has no area; one that is there has an area and an id that can be read.
use native.Mathlib.Omega.{arith}
use mathlib.Core.Path.{sym, ap, ◌∙◌}
use mathlib.Core.Bool.{not, true≢false}
use lib.ListN.{length}
use Prim.Native.Nat.{◌<◌}
use borrow.Author.Tests.{eq-eqb, eqb-true, eqb-false}
use Rattle.flood.proofs.Sight.{bears-none, bears-other_area, bears-same_area}
use Rattle.flood.proofs.look.bears.Goals as goal
use Rattle.flood.proofs.look.bears.Goals.{then-u-ne-NO_SPAN, else-u-ne-NO_SPAN}

pub bounds-area-u : goal.bounds-area-u
bounds-area-u c = c.requires.area_len_bound.1 c.if-u-ne-NO_SPAN.true

pub offset_bounds-ids-u : goal.offset_bounds-ids-u
offset_bounds-ids-u c =
    let inside : c.args.span.0 < length c.args.area.now = elim c.if-u-ne-NO_SPAN.branch [
      | then-u-ne-NO_SPAN w ↦ c.requires.area_len_bound.1 w.if-u-ne-NO_SPAN.true
      | else-u-ne-NO_SPAN w ↦ absurd (true≢false (sym c.if-area-u.true ∙ w.value-is ∙ ap not (eq-eqb _ _ w.if-u-ne-NO_SPAN.false)))
    ] in
    omega (arith, inside)

pub bounds-ids-u : goal.bounds-ids-u
bounds-ids-u c =
    let inside : c.args.span.0 < length c.args.area.now = elim c.if-u-ne-NO_SPAN.branch [
      | then-u-ne-NO_SPAN w ↦ c.requires.area_len_bound.1 w.if-u-ne-NO_SPAN.true
      | else-u-ne-NO_SPAN w ↦ absurd (true≢false (sym c.if-area-u.true ∙ w.value-is ∙ ap not (eq-eqb _ _ w.if-u-ne-NO_SPAN.false)))
    ] in
    omega (arith, inside)

pub returns-then-area-u : goal.returns-then-area-u
returns-then-area-u c = elim c.if-u-ne-NO_SPAN.branch [
  | then-u-ne-NO_SPAN w ↦ bears-same_area _ _ _ _ _ (c.requires.area_len_bound.1 w.if-u-ne-NO_SPAN.true) (eqb-true _ _ (sym w.value-is ∙ c.if-area-u.true)) c.other.ensures
  | else-u-ne-NO_SPAN w ↦ absurd (true≢false (sym c.if-area-u.true ∙ w.value-is ∙ ap not (eq-eqb _ _ w.if-u-ne-NO_SPAN.false)))
]

pub returns-else-area-u : goal.returns-else-area-u
returns-else-area-u c = elim c.if-u-ne-NO_SPAN.branch [
  | then-u-ne-NO_SPAN w ↦ c.if-area-u.false ∙ bears-other_area _ _ _ _ (c.requires.area_len_bound.1 w.if-u-ne-NO_SPAN.true) (eqb-false _ _ (sym w.value-is ∙ c.if-area-u.false))
  | else-u-ne-NO_SPAN w ↦ c.if-area-u.false ∙ bears-none _ _ _ _ c.requires.area_len_bound.0 c.requires.ids_len.1 w.if-u-ne-NO_SPAN.false
]
