-- The answers that the check does not find alone.
use Rattle.pool.proofs.SeekLaws.{search_start, search_reached, search_in, search_falls, search_next, search_done}
use borrow.Author.Rules.{rules}
use Rattle.pool.proofs.rename.rename_all.Goals as goal

pub loop-y-init : goal.loop-y-init
loop-y-init c = (search rules, search search_start)

pub rename_named-requires : goal.rename_named-requires
rename_named-requires c = (search search_reached, search search_in, search rules)

pub loop-y-smaller : goal.loop-y-smaller
loop-y-smaller c = search search_falls

pub loop-y-preserved : goal.loop-y-preserved
loop-y-preserved c = (search rules, search search_next)

pub returns : goal.returns
returns c = search search_done
