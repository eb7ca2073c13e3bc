-- A span that is none has no area; one that is there has an area and an id that can be read (Looks).
use mathlib.Core.Path.{sym, ap, ◌∙◌}
use mathlib.Core.Bool.{not}
use borrow.Author.Tests.{eq-eqb}
use Rattle.laws.proofs.Plain.{plain_zero}
use Rattle.expand.proofs.Looks.{offers_none, offers_area, offers_plain, plain_some}
use Rattle.expand.proofs.look.offers.Goals as goal
use Rattle.expand.proofs.look.offers.Goals.{then-a-eq-NO_SPAN-via-then-a-eq-NO_SPAN, then-a-eq-NO_SPAN-via-else-a-eq-NO_SPAN+then-area-a}

pub returns-then-a-eq-NO_SPAN : goal.returns-then-a-eq-NO_SPAN
returns-then-a-eq-NO_SPAN c = elim c.then-a-eq-NO_SPAN.branch [
  | then-a-eq-NO_SPAN-via-then-a-eq-NO_SPAN w ↦ offers_none _ _ _ _ c.requires.area_len_bound.0 c.requires.ids_len.1 w.if-a-eq-NO_SPAN.true
  | then-a-eq-NO_SPAN-via-else-a-eq-NO_SPAN+then-area-a w ↦ offers_area _ _ _ _ (c.requires.area_len_bound.1 w.if-a-eq-NO_SPAN.false) w.if-area-a.true
]

pub returns-then-id : goal.returns-then-id
returns-then-id c = offers_plain _ _ _ _ (c.requires.area_len_bound.1 c.if-a-eq-NO_SPAN.false) c.if-area-a.false _ (plain_some _ _ c.if-id.true c.is_border.ensures)

pub returns-else-id : goal.returns-else-id
returns-else-id c = ap not (eq-eqb _ _ c.if-id.false) ∙ offers_plain _ _ _ _ (c.requires.area_len_bound.1 c.if-a-eq-NO_SPAN.false) c.if-area-a.false _ (sym (plain_zero _ c.if-id.false))
