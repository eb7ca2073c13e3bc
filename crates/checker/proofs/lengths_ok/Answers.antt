-- `lengths_ok` is the rule's conjunction, one test after the other.
use Rattle.std.proofs.Common.{rules, ◌≡◌, ◌*◌, length}
use borrow.Author.Tests.{eq-eqb, ne_eqb}
use lib.Dec.{eqb}
use Rattle.rules.specs.Base.{◌and◌, every}
use Rattle.rules.specs.Refusals.{wrong_length}
use Rattle.checker.proofs.lengths_ok.Goals as goal
use Rattle.checker.proofs.lengths_ok.Goals.{then-field-cells, else-field-cells, then-field-cells-2, else-field-cells-2, then-field-spans, else-field-spans}

pub returns-then-a-spans : goal.returns-then-a-spans
unfolding wrong_length ◌and◌ every
returns-then-a-spans c =
    let F = c.args.field.now in
    let v : c.if-field-cells.value ≡ (eqb (length F.index.now) (F.w * F.h) and eqb (length F.count.now) (F.w * F.h)) =
    elim c.if-field-cells.branch [ then-field-cells u ↦ search (rules, eq-eqb) | else-field-cells u ↦ search (rules, ne_eqb) ] in
    let v2 : c.if-field-cells-2.value ≡ (c.if-field-cells.value and eqb (length F.con.now) (4 * length F.area.now)) =
    elim c.if-field-cells-2.branch [ then-field-cells-2 u ↦ search rules | else-field-cells-2 u ↦ search rules ] in
    let v3 : c.if-field-spans.value ≡ (c.if-field-cells-2.value and eqb c.args.a (length F.area.now)) =
    elim c.if-field-spans.branch [ then-field-spans u ↦ search rules | else-field-spans u ↦ search rules ] in
    search rules

pub returns-else-a-spans : goal.returns-else-a-spans
unfolding wrong_length ◌and◌ every
returns-else-a-spans c =
    let F = c.args.field.now in
    let v : c.if-field-cells.value ≡ (eqb (length F.index.now) (F.w * F.h) and eqb (length F.count.now) (F.w * F.h)) =
    elim c.if-field-cells.branch [ then-field-cells u ↦ search (rules, eq-eqb) | else-field-cells u ↦ search (rules, ne_eqb) ] in
    let v2 : c.if-field-cells-2.value ≡ (c.if-field-cells.value and eqb (length F.con.now) (4 * length F.area.now)) =
    elim c.if-field-cells-2.branch [ then-field-cells-2 u ↦ search rules | else-field-cells-2 u ↦ search rules ] in
    let v3 : c.if-field-spans.value ≡ (c.if-field-cells-2.value and eqb c.args.a (length F.area.now)) =
    elim c.if-field-spans.branch [ then-field-spans u ↦ search rules | else-field-spans u ↦ search rules ] in
    search rules
