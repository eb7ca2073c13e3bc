-- Less 0 the ids are as they were; otherwise all are lowered.
use Rattle.pool.proofs.ListLaws.{map_to-start, map_to_go, map_to-end}
use Rattle.watershed.proofs.FormLaws.{lower-none}
use borrow.Author.Rules.{rules}
use Rattle.watershed.proofs.form.lower_ids.Goals as goal

pub returns-then-d-eq0 : goal.returns-then-d-eq0
returns-then-d-eq0 c = search (rules, lower-none)

pub loop-r-init : goal.loop-r-init
loop-r-init c = search (rules, map_to-start)

pub loop-r-preserved : goal.loop-r-preserved
loop-r-preserved c = search (rules, map_to_go)

pub returns : goal.returns
returns c = search (rules, map_to-end)
