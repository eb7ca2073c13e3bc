-- `least_at` is the rule's least: itself, then one side, then the other.
use native.Mathlib.Omega.{arith}
use Rattle.distance.proofs.Values.{con_in}
use Rattle.distance.proofs.Sides.{least_is}
use Rattle.distance.proofs.pass.least_at.Goals as goal

pub bounds-raw-p : goal.bounds-raw-p
bounds-raw-p c = omega (arith, c.requires.1.span, c.requires.2.size)

pub connections-cons-requires : goal.connections-cons-requires
connections-cons-requires c = con_in _ c.requires.0 _ _ c.requires.1

pub returns : goal.returns
returns c = least_is _ _ _ _ _ _ _ _ _ (omega (arith, c.requires.1.span, c.requires.2.size)) c.side-best.ensures c.side.ensures
