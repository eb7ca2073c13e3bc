-- The two cases of the mending's answer are the rule's; the changes that were made have their places in the list.
use Rattle.mending.proofs.Bytes.{room_left}
use Rattle.mending.proofs.Files.{field_refused, field_made}
use borrow.Author.Rules.{rules}
use Rattle.mending.proofs.whole.mend_field.Goals as goal

pub mend_bytes-requires : goal.mend_bytes-requires
mend_bytes-requires c = (search (rules, room_left), search rules, search rules)

pub returns-in-Err : goal.returns-in-Err
returns-in-Err c = record {
  bytes_after = search (rules, field_refused);
  placed = search rules;
}

pub returns-in-Ok : goal.returns-in-Ok
returns-in-Ok c = record {
  bytes_after = search (rules, field_made);
  placed = search (rules, room_left);
}
