-- The answers that the check does not find alone.
use Rattle.merge.proofs.SuitLaws.{any-end, floor_here, floor_next, floor_in_lem}
use borrow.Author.Rules.{rules}
use Rattle.merge.proofs.recs.any_floor.Goals as goal

pub bounds-ws-f : goal.bounds-ws-f
bounds-ws-f c = search (rules, floor_in_lem)

pub returns-then-ws-f : goal.returns-then-ws-f
returns-then-ws-f c = search (rules, floor_here)

pub loop-f-preserved : goal.loop-f-preserved
loop-f-preserved c = search (rules, floor_next)

pub returns : goal.returns
returns c = search (rules, any-end)
