-- By cases: few spans take nothing, so the cell itself is looked back to; a last cell of other height is of no use; one with the same ids gives all, and
-- else the layers that are the same.
use native.Mathlib.Omega.{arith}
use mathlib.Core.Path.{refl}
use mathlib.Core.Logic.{inl, inr}
use borrow.Author.Tests.{lt-ltb, le-ltb}
use Rattle.rules.specs.Base.{when◌then◌else◌}
use Rattle.records.proofs.cell.look_back.Goals as goal

pub returns-then-cell-lt2 : goal.returns-then-cell-lt2
unfolding when◌then◌else◌
returns-then-cell-lt2 c = (rw (le-ltb 1 c.args.cell.size (omega (arith, c.if-cell-lt2.true))), record { seen = λ _. inl (refl, λ h. absurd (omega (arith, h, c.if-cell-lt2.true))) })

pub returns-then-last-cell : goal.returns-then-last-cell
unfolding when◌then◌else◌
returns-then-last-cell c = (rw (lt-ltb 1 c.args.cell.size (omega (arith, c.if-cell-lt2.false))), record { seen = λ n. absurd (n refl) })

pub alike-requires : goal.alike-requires
alike-requires c = (c.requires.0, c.requires.1, c.requires.2, omega (arith, c.if-cell-lt2.false), c.if-last-cell.false)

pub returns-then-alike : goal.returns-then-alike
unfolding when◌then◌else◌
returns-then-alike c = (rw (lt-ltb 1 c.args.cell.size (omega (arith, c.if-cell-lt2.false))), record { seen = λ _. inl (refl, λ _. c.alike.ensures c.if-alike.true) })

pub returns : goal.returns
unfolding when◌then◌else◌
returns c = (rw (lt-ltb 1 c.args.cell.size (omega (arith, c.if-cell-lt2.false))), record { seen = λ _. inr (refl, c.if-last-cell.false) })
