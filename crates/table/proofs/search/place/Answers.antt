-- `table::search::place` meets its contract.
use Rattle.table.proofs.SearchLaws.{place_rest}
use borrow.Author.Rules.{rules}
use Rattle.table.proofs.search.place.Goals as goal

pub returns : goal.returns
returns c = (search (rules, place_rest), search rules)
