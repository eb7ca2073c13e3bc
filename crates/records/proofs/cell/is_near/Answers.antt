-- No loop: a prior cell has as many spans and lies among the ids, and so does its span in the span's layer; the answer is the test of the two ids.
use Prim.Native.Nat.{ℕ, ◌+◌, ◌-◌, ◌<◌}
use native.Mathlib.Omega.{arith}
use borrow.Author.Tests.{eqb-true, eq-eqb}
use mathlib.Core.Bool.{not, true≢false}
use mathlib.Core.List.{List}
use mathlib.Core.Path.{refl, sym, ap, ◌∙◌}
use lib.ListN.{length}
use Rattle.records.specs.Cell.{Within, Lies, as_many_from}
use Rattle.records.specs.declared.cell.Spans.{Spans}
use Rattle.records.proofs.cell.is_near.Goals as goal

before : (ids : List ℕ) (s p : ℕ) (cell : Spans) → Within ids s cell → Lies ids (as_many_from p cell) → p + (s - cell.from) < length ids
before ids s p cell w l = omega (arith, w.lower, w.upper, l.inside (omega (arith, w.lower, w.upper)))

pub overflow_add-result : goal.overflow_add-result
overflow_add-result c = omega (arith, before _ _ _ _ c.requires.1 (c.requires.2 c.if-prior-ne-NO_SPAN.true), c.requires.0)

pub offset_bounds-ids-prior : goal.offset_bounds-ids-prior
offset_bounds-ids-prior c = omega (arith, before _ _ _ _ c.requires.1 (c.requires.2 c.if-prior-ne-NO_SPAN.true), c.requires.0)

pub bounds-ids-prior : goal.bounds-ids-prior
bounds-ids-prior c = before _ _ _ _ c.requires.1 (c.requires.2 c.if-prior-ne-NO_SPAN.true)

pub returns-then-prior-ne-NO_SPAN : goal.returns-then-prior-ne-NO_SPAN
returns-then-prior-ne-NO_SPAN c = λ e. (c.if-prior-ne-NO_SPAN.true, record { size = refl; same = eqb-true _ _ e })

pub returns-else-prior-ne-NO_SPAN : goal.returns-else-prior-ne-NO_SPAN
returns-else-prior-ne-NO_SPAN c = λ e. absurd (true≢false (sym e ∙ ap not (eq-eqb _ _ c.if-prior-ne-NO_SPAN.false)))
