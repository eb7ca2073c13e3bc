-- The answers that the check does not find alone.
use mathlib.Core.Path.{refl}
use Rattle.records.proofs.FreshLaws.{tallied_start, tally_fits, tallied_next, tallied_end}
use Rattle.records.proofs.fresh.tally.Goals as goal

pub loop-r-init : goal.loop-r-init
loop-r-init c = tallied_start _ _ _ c.requires

pub tally_one-requires : goal.tally_one-requires
tally_one-requires c = tally_fits _ _ _ _ _ c.loop-r.invariant c.loop-r-test.true c.requires _

pub loop-r-preserved : goal.loop-r-preserved
loop-r-preserved c = tallied_next _ _ _ _ _ c.loop-r.invariant c.loop-r-test.true _ _ refl (tally_fits _ _ _ _ _ c.loop-r.invariant c.loop-r-test.true c.requires 0).0 c.tally_one.ensures

pub shape_of-ws : goal.shape_of-ws
shape_of-ws c = c.loop-r.invariant.size

pub returns : goal.returns
returns c = tallied_end _ _ _ _ _ c.loop-r.invariant c.loop-r-test.false
