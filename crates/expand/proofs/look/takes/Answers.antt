-- The answers that the check does not find alone.
use native.Mathlib.Omega.{arith}
use borrow.Author.Rules.{rules}
use Rattle.expand.proofs.Looks.{sight_some, looking_start, looking_next, looking_done}
use Rattle.expand.proofs.look.takes.Goals as goal

pub loop-d-init : goal.loop-d-init
loop-d-init c = looking_start _ _ _ _

pub look-t-requires : goal.look-t-requires
look-t-requires c = record {
  sight = search rules;
  far_bound = c.loop-d.invariant.near;
}

pub loop-d-preserved : goal.loop-d-preserved
loop-d-preserved c = looking_next _ _ _ _ _ _ _ c.loop-d.invariant _ _ (omega (arith, c.loop-d-test.true)) c.look-t.ensures

pub returns : goal.returns
returns c = looking_done _ _ _ _ _ _ _ c.loop-d.invariant c.loop-d-test.false (sight_some _ _ _ _ _ c.requires)
