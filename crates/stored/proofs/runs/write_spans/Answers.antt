-- The answers that the check does not find alone.
use Rattle.forms.proofs.Bytes.{new_length}
use Rattle.stored.proofs.NewPlaces.{runs_below}
use Rattle.stored.proofs.NewCalls.{all_first, all_room, all_next, all_end_room, all_done}
use borrow.Author.Rules.{rules}
use Rattle.stored.proofs.runs.write_spans.Goals as goal

pub loop-j-init : goal.loop-j-init
loop-j-init c = (search (rules, new_length), search rules, search (rules, all_first))

pub put_record_spans-at-requires : goal.put_record_spans-at-requires
put_record_spans-at-requires c = (search rules, search (rules, all_room))

pub loop-j-preserved : goal.loop-j-preserved
loop-j-preserved c = (search rules, search (rules, runs_below), search (rules, all_next))

pub put-requires : goal.put-requires
put-requires c = search (rules, all_end_room)

pub returns : goal.returns
returns c = search (rules, all_done)
