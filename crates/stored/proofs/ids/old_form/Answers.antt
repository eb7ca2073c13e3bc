-- The answers that the check does not find alone.
use Rattle.stored.proofs.OldForm.{old_first, old_room, old_next, old_end_room, old_done}
use borrow.Author.Rules.{rules}
use Rattle.stored.proofs.ids.old_form.Goals as goal

pub loop-id-init : goal.loop-id-init
loop-id-init c = search (rules, old_first)

pub put_span-at-requires : goal.put_span-at-requires
put_span-at-requires c = search (rules, old_room)

pub loop-id-preserved : goal.loop-id-preserved
loop-id-preserved c = search (rules, old_next)

pub put-requires : goal.put-requires
put-requires c = search (rules, old_end_room)

pub returns : goal.returns
returns c = search (rules, old_done)
