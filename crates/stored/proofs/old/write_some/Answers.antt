-- The answers that the check does not find alone.
use Rattle.stored.proofs.Calls.{some_first, some_room, some_next, last_room, end_room, some_done, grown_bound}
use borrow.Author.Rules.{rules}
use Rattle.stored.proofs.old.write_some.Goals as goal

pub loop-i-init : goal.loop-i-init
loop-i-init c = (search rules, search (rules, some_first))

pub put_ended-at-requires : goal.put_ended-at-requires
put_ended-at-requires c = search (rules, some_room)

pub loop-i-preserved : goal.loop-i-preserved
loop-i-preserved c = (search (rules, grown_bound), search (rules, some_next))

pub put_run-last-requires : goal.put_run-last-requires
put_run-last-requires c = search (rules, last_room)

pub put-requires : goal.put-requires
put-requires c = search (rules, end_room)

pub returns : goal.returns
returns c = some_done _ _ _ _ _ _ _ _ c.loop-i.invariant.1 c.requires.0 c.loop-i.invariant.0 (search rules) c.loop-i-test.false _ _ c.put_run-last.ensures _ _ c.put.ensures
