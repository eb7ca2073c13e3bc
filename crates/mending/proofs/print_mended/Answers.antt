-- The changes that were made have their places in the list, which is what telling them requires.
use Rattle.mending.proofs.Files.{placed_made}
use borrow.Author.Rules.{rules}
use Rattle.mending.proofs.print_mended.Goals as goal

pub tell_changes-requires : goal.tell_changes-requires
tell_changes-requires g c = (search (rules, placed_made), search rules)
