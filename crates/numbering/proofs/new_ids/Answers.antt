-- The answers that the check does not find alone.
use Rattle.pool.proofs.ListLaws.{map_to-start, map_to_go, map_to-end}
use Rattle.numbering.proofs.NumberLaws.{span_below}
use borrow.Author.Rules.{rules}
use Rattle.numbering.proofs.new_ids.Goals as goal

pub loop-id-init : goal.loop-id-init
loop-id-init c = search (rules, map_to-start)

pub new_id-requires : goal.new_id-requires
new_id-requires c = (search rules, search rules, search (rules, span_below))

pub loop-id-preserved : goal.loop-id-preserved
loop-id-preserved c = search (rules, map_to_go)

pub returns : goal.returns
returns c = search (rules, map_to-end)
