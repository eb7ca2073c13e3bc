-- The answers that the check does not find alone.
use mathlib.Core.Path.{refl}
use native.Mathlib.Nat.{le_refl}
use native.Mathlib.Omega.{arith}
use Rattle.distance.proofs.Walks.{low_skip, down_go, last_stands, cells_sized, high_fits, high_next, pass2-end}
use Rattle.distance.proofs.Bounds.{low_room, low_next, down_next}
use borrow.Author.Rules.{rules}
use Rattle.distance.proofs.pass.pass2.Goals as goal

pub loop-s-smaller-then-raw-s-le-SETTLED : goal.loop-s-smaller-then-raw-s-le-SETTLED
loop-s-smaller-then-raw-s-le-SETTLED c = omega (arith, high_fits _ _ _ _ c.unsettled-s.ensures (le_refl _), c.loop-s-test.true)

pub loop-s-preserved-then-raw-s-le-SETTLED : goal.loop-s-preserved-then-raw-s-le-SETTLED
loop-s-preserved-then-raw-s-le-SETTLED c = (high_fits _ _ _ _ c.unsettled-s.ensures (omega (arith, c.loop-s.invariant.0)), high_next _ _ _ _ _ c.unsettled-s.ensures (omega (arith, c.loop-s.invariant.0, c.loop-s.invariant.2.size)) (low_skip _ _ _ _ c.loop-s-test.true (omega (arith, c.loop-s.invariant.0, c.loop-s.invariant.2.size)) c.if-raw-s-le-SETTLED.true c.loop-s.invariant.1), search rules)

pub bounds-cells-s : goal.bounds-cells-s
bounds-cells-s c = let n = cells_sized _ _ c.requires.2 in search rules

pub least_at-requires : goal.least_at-requires
least_at-requires c = let st = last_stands _ _ _ _ c.requires.2 c.loop-s-test.true c.loop-s.invariant.0 refl in
    (search rules, st, low_room _ _ c.loop-s.invariant.2 _ _ _, low_room _ _ c.loop-s.invariant.2 _ _ _)

pub loop-s-preserved : goal.loop-s-preserved
loop-s-preserved c = let st = last_stands _ _ _ _ c.requires.2 c.loop-s-test.true c.loop-s.invariant.0 refl in
    (search rules, down_go _ _ _ _ _ c.loop-s-test.true c.loop-s.invariant.1 (down_next _ _ c.loop-s.invariant.2 _ st.span _ c.least_at.ensures), low_next _ _ c.loop-s.invariant.2 _ st.span _ c.least_at.ensures)

pub returns : goal.returns
returns c = search (rules, pass2-end)
