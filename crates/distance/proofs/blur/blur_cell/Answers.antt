-- The answers that the check does not find alone.
use mathlib.Core.Path.{refl}
use native.Mathlib.Omega.{arith}
use Rattle.rules.specs.Base.{upto}
use Rattle.distance.proofs.Walks.{cell-end}
use Rattle.distance.proofs.Bounds.{layer_stood}
use Rattle.distance.proofs.Blurs.{blur_go}
use borrow.Author.Rules.{rules}
use Rattle.distance.proofs.blur.blur_cell.Goals as goal

pub loop-j-init : goal.loop-j-init
unfolding upto
loop-j-init c = search rules

pub blur_span-requires : goal.blur_span-requires
blur_span-requires c = (search rules, search (rules, layer_stood), search rules)

pub bounds-blurred-s : goal.bounds-blurred-s
bounds-blurred-s c = let u = layer_stood _ _ _ _ _ _ _ _ _ _ c.args.raw.now c.requires.0 refl refl c.loop-j-test.true in omega (arith, u.span)

pub loop-j-preserved : goal.loop-j-preserved
loop-j-preserved c = (search rules, search rules, blur_go _ _ _ _ _ _ _ c.loop-j.invariant.2 c.blur_span.ensures)

pub returns : goal.returns
returns c = cell-end _ _ _ _ _ _ _ _ refl refl c.loop-j.invariant.2 c.loop-j.invariant.0 (omega arith)
