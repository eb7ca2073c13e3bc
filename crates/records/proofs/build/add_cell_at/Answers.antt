-- An empty cell leaves all as it was; of another what is known is handed on, and it is known itself once its spans are added (BuildLaws).
use Prim.Native.Nat.{◌<◌}
use native.Mathlib.Omega.{arith}
use mathlib.Core.Path.{sym, ap, ◌∙◌}
use Rattle.records.specs.Build.{spans_at}
use Rattle.records.specs.declared.cell.Spans.{Spans}
use Rattle.records.proofs.BuildLaws.{cell_lies, know_from, know_next, entered_none}
use Rattle.records.proofs.build.add_cell_at.Goals as goal

pub returns-then-cell-eq0 : goal.returns-then-cell-eq0
returns-then-cell-eq0 c = (entered_none _ _ _ _ _ _ _ _ c.requires.fact.0 c.requires.fact.1 (sym (ap (λ (x : Spans). x.size) c.spans_of-cell.ensures) ∙ c.if-cell-eq0.true), c.requires.fact.1)

pub look_back-back-requires : goal.look_back-back-requires
look_back-back-requires c = let some : 0 < (spans_at c.args.field.now.index.now c.args.field.now.count.now c.args.c).size = let e = ap (λ (x : Spans). x.size) c.spans_of-cell.ensures in omega (arith, e, c.if-cell-eq0.false) in
    ((c.requires.fact.0.keeping some).spans, c.requires.fact.1.lies, rw c.spans_of-cell.ensures (cell_lies _ _ _ _ _ _ _ _ c.requires.fact.0 c.requires.fact.1))

pub add_spans-requires : goal.add_spans-requires
add_spans-requires c = let some : 0 < (spans_at c.args.field.now.index.now c.args.field.now.count.now c.args.c).size = let e = ap (λ (x : Spans). x.size) c.spans_of-cell.ensures in omega (arith, e, c.if-cell-eq0.false) in
    record {
      entering = rw c.spans_of-cell.ensures c.requires.fact.0;
      knowing_from = rw c.spans_of-cell.ensures (know_from _ _ _ _ _ _ _ _ c.requires.fact.0 c.requires.fact.1 some _ (rw c.spans_of-cell.ensures at c.look_back-back.ensures.1));
    }

pub returns : goal.returns
returns c = let some : 0 < (spans_at c.args.field.now.index.now c.args.field.now.count.now c.args.c).size = let e = ap (λ (x : Spans). x.size) c.spans_of-cell.ensures in omega (arith, e, c.if-cell-eq0.false) in
    let d = rw c.spans_of-cell.ensures at c.add_spans.ensures in
    (d, know_next _ _ _ _ _ _ _ _ c.requires.fact.0 c.requires.fact.1 some _ _ d _ (rw c.spans_of-cell.ensures at c.look_back-back.ensures.0))
