-- The answers that the check does not find alone.
use Rattle.filter.proofs.RemoveLaws.{next_count, total-start, total_go, total_done}
use borrow.Author.Rules.{rules}
use Rattle.filter.proofs.remove.total.Goals as goal

pub loop-k-init : goal.loop-k-init
loop-k-init c = (search rules, search rules, search total-start)

pub at-sum-requires : goal.at-sum-requires
at-sum-requires c = search (rules, next_count)

pub loop-k-preserved : goal.loop-k-preserved
loop-k-preserved c = (search rules, search rules, search total_go)

pub returns : goal.returns
returns c = search total_done
