-- The byte's place is the rule's; past the end of the file nothing is written, and `set` changes nothing there.
use Rattle.mending.proofs.Bytes.{byte_made, byte_past}
use borrow.Author.Rules.{rules}
use Rattle.mending.proofs.patch.mend_byte.Goals as goal

pub returns-then-at-bytes : goal.returns-then-at-bytes
returns-then-at-bytes c = search (rules, byte_made)

pub returns-else-at-bytes : goal.returns-else-at-bytes
returns-else-at-bytes c = search (rules, byte_past)
