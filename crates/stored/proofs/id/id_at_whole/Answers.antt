-- A refusal of the full read, or what the search gives.
use Rattle.stored.proofs.Halving.{whole_refused, whole_found, whole_fine}
use borrow.Author.Rules.{rules}
use Rattle.stored.proofs.id.id_at_whole.Goals as goal

pub find_whole-requires : goal.find_whole-requires
find_whole-requires c = search (rules, whole_fine)

pub returns-in-Err : goal.returns-in-Err
returns-in-Err c = search (rules, whole_refused)

pub returns-in-Ok : goal.returns-in-Ok
returns-in-Ok c = search (rules, whole_found)
