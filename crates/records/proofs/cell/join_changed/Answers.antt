-- No loop: a layer that has the prior cell's id joins to no effect (JoinLaws), since that id is listed, or is none that joins; any other is `join_one`'s.
use native.Mathlib.Omega.{arith}
use mathlib.Core.Path.{refl}
use Rattle.records.proofs.JoinLaws.{join_listed}
use Rattle.records.proofs.cell.join_changed.Goals as goal

pub offset_bounds-ids-before : goal.offset_bounds-ids-before
offset_bounds-ids-before c = let u = c.requires.unchanged c.if-near.true in
    omega (arith, u.inside, u.spans)

pub bounds-ids-before : goal.bounds-ids-before
bounds-ids-before c = (c.requires.unchanged c.if-near.true).inside

pub returns-then-ids-other : goal.returns-then-ids-other
returns-then-ids-other c = record {
  fact = join_listed _ _ _ _ _ _ c.requires.len_in_bounds (c.requires.unchanged c.if-near.true) c.if-ids-other.true;
  len_value = λ _. refl;
}
