-- The answers that the check does not find alone.
use native.Mathlib.Omega.{arith}
use mathlib.Core.Path.{refl}
use Rattle.distance.proofs.Walks.{cell_stands, cells_sized, run_join, pass1-end}
use Rattle.distance.proofs.Bounds.{flat-first, flat-left, flat_up, flat-run, flat_go, flat-last}
use borrow.Author.Rules.{rules}
use Rattle.distance.proofs.pass.pass1.Goals as goal

pub edges-next-requires : goal.edges-next-requires
edges-next-requires c = (search rules, search rules, search (rules, flat-first))

pub bounds-cells-s : goal.bounds-cells-s
bounds-cells-s c = let n = cells_sized _ _ c.requires.2 in let g = rw c.in-Some.is at c.loop-next.invariant.2 in omega (arith, n, g.0)

pub from_inside-requires-clause-place : goal.from_inside-requires-clause-place
from_inside-requires-clause-place c =
    let g = rw c.in-Some.is at c.loop-next.invariant.2 in
    let p = rw c.in-Some.is at c.loop-next.invariant.1 in
    let st = cell_stands _ _ _ _ _ c.requires.2 g.0 refl refl in
    (search rules, st, flat-left _ c.requires.0 _ _ _ p st, flat_up _ c.requires.0 _ _ _ p st)

pub edges-next-requires-in-Some : goal.edges-next-requires-in-Some
edges-next-requires-in-Some c =
    let g = rw c.in-Some.is at c.loop-next.invariant.2 in
    let p = rw c.in-Some.is at c.loop-next.invariant.1 in
    let st = cell_stands _ _ _ _ _ c.requires.2 g.0 refl refl in
    (search rules, omega (arith, g.0), flat_go _ c.requires.0 _ _ _ p st c.codes_are_bytes.ensures _ c.from_inside.ensures)

pub loop-next-preserved : goal.loop-next-preserved
loop-next-preserved c =
    let g = rw c.in-Some.is at c.loop-next.invariant.2 in
    let p = rw c.in-Some.is at c.loop-next.invariant.1 in
    let r = rw c.in-Some.is at c.loop-next.invariant.0 in
    let st = cell_stands _ _ _ _ _ c.requires.2 g.0 refl refl in
    let one = flat-run _ c.requires.0 _ _ _ p st _ _ _ (omega arith) r c.from_inside.ensures in
    (run_join _ _ _ _ _ _ _ (omega arith) c.edges-next-in-Some.ensures.2 one c.edges-next-in-Some.ensures.0, c.edges-next-in-Some.ensures.1, c.edges-next-in-Some.ensures.3)

pub returns : goal.returns
returns c =
    let r = rw c.in_default.is at c.loop-next.invariant.0 in
    let p = rw c.in_default.is at c.loop-next.invariant.1 in
    (pass1-end _ _ _ c.requires.0 c.requires.1 r, flat-last _ c.requires.0 _ _ _ refl (omega arith) p)
