-- The answers that the check does not find alone.
use native.Mathlib.Omega.{arith}
use mathlib.Core.Path.{refl}
use Rattle.rules.specs.Base.{upto}
use Rattle.distance.proofs.Walks.{cell-end}
use Rattle.distance.proofs.Bounds.{layer_stood, room_low, low_in, pass_go, low_go}
use borrow.Author.Rules.{rules}
use Rattle.distance.proofs.pass.pass2_cell.Goals as goal

pub loop-j-init : goal.loop-j-init
unfolding upto
loop-j-init c = search rules

pub lowered-requires : goal.lowered-requires
lowered-requires c = (search rules, search (rules, layer_stood), search (rules, room_low), search (rules, room_low))

pub bounds-raw-s : goal.bounds-raw-s
bounds-raw-s c = low_in _ _ _ _ _ _ c.args.c _ _ _ _ c.requires.0 refl refl c.loop-j-test.true c.loop-j.invariant.2

pub loop-j-preserved : goal.loop-j-preserved
loop-j-preserved c = (search rules, pass_go _ _ _ _ _ _ _ _ _ _ _ c.requires.0 refl refl c.loop-j-test.true _ _ _ _ _ c.lowered.ensures _ c.loop-j.invariant.1, low_go _ _ _ _ _ _ _ _ _ _ _ c.requires.0 refl refl c.loop-j-test.true _ _ _ _ _ c.lowered.ensures c.loop-j.invariant.2)

pub returns : goal.returns
returns c = (cell-end _ _ _ _ _ _ _ _ refl refl c.loop-j.invariant.1 c.loop-j.invariant.0 (omega arith), search rules)
