-- The answers that the check does not find alone.
use mathlib.Core.Path.{◌∙◌}
use Rattle.contour.proofs.WalkLaws.{going_start, going_stand, going_next, going-back, going_end}
use native.Mathlib.Omega.{arith}
use Rattle.contour.proofs.walk.walk.Goals as goal

pub loop-k-init : goal.loop-k-init
loop-k-init c = going_start _ _ _ _ _ _ _ c.requires.0 c.requires.1 _ _ c.begin-v.ensures

pub stride-v-requires : goal.stride-v-requires
stride-v-requires c = going_stand _ _ _ _ _ _ _ c.requires.0 c.requires.1 _ _ c.begin-v.ensures _ _ _ c.loop-k.invariant

pub shape_of-ws-then-at : goal.shape_of-ws-then-at
shape_of-ws-then-at c = c.stride-v.auto.ws ∙ c.loop-k.invariant.laid.same ∙ c.begin-v.auto.ws

pub returns-then-at : goal.returns-then-at
returns-then-at c = going-back _ _ _ _ _ _ _ c.requires.0 c.requires.1 _ _ c.begin-v.ensures _ _ _ c.loop-k.invariant _ _ c.stride-v.ensures (omega (arith, c.loop-k-test.true)) _ c.at.ensures c.if-at.true

pub loop-k-preserved : goal.loop-k-preserved
loop-k-preserved c = going_next _ _ _ _ _ _ _ c.requires.0 c.requires.1 _ _ c.begin-v.ensures _ _ _ c.loop-k.invariant _ _ c.stride-v.ensures (omega (arith, c.loop-k-test.true)) _ c.at.ensures c.if-at.false

pub shape_of-ws : goal.shape_of-ws
shape_of-ws c = c.loop-k.invariant.laid.same ∙ c.begin-v.auto.ws

pub returns : goal.returns
returns c = going_end _ _ _ _ _ _ _ c.requires.0 c.requires.1 _ _ c.begin-v.ensures _ _ _ c.loop-k.invariant c.loop-k-test.false
