-- Where r is found at the guess, that is a place of it; else its first place among the n is one, or n.
-- Whether r is listed does not depend on the guess.
use Rattle.records.proofs.CellLaws.{found_here, place_found}
use borrow.Author.Rules.{rules}
use Rattle.records.proofs.cell.find.Goals as goal

pub returns-then-r-part : goal.returns-then-r-part
returns-then-r-part c = search (rules, found_here)

pub returns : goal.returns
returns c = rw c.place.ensures.0 (place_found _ _ _ c.requires)
