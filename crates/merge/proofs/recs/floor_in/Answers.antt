-- The answers that the check does not find alone.
use Rattle.merge.proofs.SuitLaws.{look-start, look_in, look_falls, look_found, look_next, look_none, floors_below}
use borrow.Author.Rules.{rules}
use Rattle.merge.proofs.recs.floor_in.Goals as goal

pub loop-y-init : goal.loop-y-init
loop-y-init c = search look-start

pub list_of-requires : goal.list_of-requires
list_of-requires c = search (rules, look_in)

pub any_floor-requires : goal.any_floor-requires
any_floor-requires c = search (floors_below, look_in)

pub returns-then-any_floor : goal.returns-then-any_floor
returns-then-any_floor c = search look_found

pub next_of-y-requires : goal.next_of-y-requires
next_of-y-requires c = (search rules, search look_in)

pub loop-y-smaller : goal.loop-y-smaller
loop-y-smaller c = search look_falls

pub loop-y-preserved : goal.loop-y-preserved
loop-y-preserved c = search look_next

pub returns : goal.returns
returns c = search look_none
