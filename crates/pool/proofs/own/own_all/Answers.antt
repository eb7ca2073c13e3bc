-- The answers that the check does not find alone.
use Rattle.pool.proofs.OwnLaws.{owning_stands, owning_go, owning_all}
use borrow.Author.Rules.{rules}
use Rattle.pool.proofs.own.own_all.Goals as goal

pub own_one-requires : goal.own_one-requires
own_one-requires c = (search owning_stands, search rules)

pub loop-x-preserved : goal.loop-x-preserved
loop-x-preserved c = search owning_go

pub returns-clause-owned : goal.returns-clause-owned
returns-clause-owned c = search owning_all
