-- `write::write_refused` meets its contract: two pieces are the rule's line.
-- The byte string is the rule's text, by computation.
use Rattle.file.proofs.Lines.{refused_room, refused_end, refused_done, name_refused}
use Rattle.file.proofs.write.write_refused.Goals as goal

pub put_named-next-requires : goal.put_named-next-requires
put_named-next-requires c = search (refused_room, name_refused)

pub put-requires : goal.put-requires
put-requires c = search (refused_end, name_refused)

pub returns : goal.returns
returns c = search (refused_done, name_refused)
