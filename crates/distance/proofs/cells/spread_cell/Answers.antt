-- The answers that the check does not find alone.
use native.Mathlib.Omega.{arith}
use mathlib.Core.Path.{refl}
use Rattle.rules.specs.Base.{upto}
use Rattle.distance.proofs.Walks.{note_go, note_in, note_one, note_one_in, cell-end}
use borrow.Author.Rules.{rules}
use Rattle.distance.proofs.cells.spread_cell.Goals as goal

pub bounds-cells-i : goal.bounds-cells-i
bounds-cells-i c = note_one_in _ _ _ _ _ _ c.args.c _ _ _ c.requires.0 refl refl c.if-k-eq1.true c.requires.2

pub returns-then-k-eq1 : goal.returns-then-k-eq1
returns-then-k-eq1 c = note_one _ _ _ _ _ _ _ _ _ _ c.requires.0 refl refl c.if-k-eq1.true

pub loop-j-init : goal.loop-j-init
unfolding upto
loop-j-init c = search rules

pub bounds-cells-i-in-loop-j : goal.bounds-cells-i-in-loop-j
bounds-cells-i-in-loop-j c = note_in _ _ _ _ _ _ c.args.c _ _ _ _ c.requires.0 refl refl c.loop-j-test.true c.loop-j.invariant.1

pub loop-j-preserved : goal.loop-j-preserved
loop-j-preserved c = (search rules, search rules, note_go _ _ _ _ _ _ _ _ _ _ _ _ c.requires.0 refl refl c.loop-j-test.true c.loop-j.invariant.2)

pub returns : goal.returns
returns c = cell-end _ _ _ _ _ _ _ _ refl refl c.loop-j.invariant.2 c.loop-j.invariant.0 (omega arith)
