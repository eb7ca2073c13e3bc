-- The answers that the check does not find alone.
use mathlib.Core.Path.{refl}
use Rattle.rules.specs.Base.{upto}
use Rattle.distance.proofs.Walks.{blur_stands, cells_sized, blur-end}
use Rattle.distance.proofs.Blurs.{blur_next}
use borrow.Author.Rules.{rules}
use Rattle.distance.proofs.blur.box_blur.Goals as goal

pub loop-s-init : goal.loop-s-init
unfolding upto
loop-s-init c = (search rules, search rules, search (rules, cells_sized), search rules, search rules)

pub blur_span-requires : goal.blur_span-requires
blur_span-requires c = (search rules, blur_stands _ _ _ _ _ _ _ c.requires.2 c.loop-s.invariant.3 c.loop-s-test.true c.loop-s.invariant.1 refl, search rules)

pub loop-s-preserved : goal.loop-s-preserved
loop-s-preserved c = (search rules, search rules, search rules, blur_next _ _ _ _ _ _ c.loop-s.invariant.3 c.blur_span.ensures, search rules)

pub returns : goal.returns
returns c = search (rules, blur-end)
