-- The answers that the check does not find alone.
use Rattle.pool.proofs.SweepLaws.{walked_none, walked_go, walked_less}
use borrow.Author.Rules.{rules}
use Rattle.pool.proofs.rename.rename_named.Goals as goal

pub loop-q-init : goal.loop-q-init
loop-q-init c = (search rules, search walked_none)

pub loop-q-smaller : goal.loop-q-smaller
loop-q-smaller c = search walked_less

pub loop-q-preserved : goal.loop-q-preserved
loop-q-preserved c = (search rules, search walked_go)
