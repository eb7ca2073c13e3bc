-- A file of one byte has no span; any other that is fine has one.
use Rattle.stored.proofs.Places.{old_length}
use Rattle.stored.proofs.Calls.{fit_none, old_some}
use borrow.Author.Rules.{rules}
use Rattle.stored.proofs.old.pack_fits.Goals as goal

pub returns-then-old-eq1 : goal.returns-then-old-eq1
returns-then-old-eq1 c = search (rules, fit_none)

pub runs_fit-requires : goal.runs_fit-requires
runs_fit-requires c = (search (rules, old_length), search (rules, old_some))
