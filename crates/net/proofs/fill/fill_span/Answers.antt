-- Each of the four is where its connection leads, and the four stores are `filled_at` (Fills).
use lib.ListN.{length-set}
use Rattle.net.proofs.Fills.{lent_leaf, four_stores}
use borrow.Author.Rules.{rules}
use Rattle.net.proofs.fill.fill_span.Goals as goal

pub lead-requires : goal.lead-requires
lead-requires c = search (rules, lent_leaf)

pub lead-requires-2 : goal.lead-requires-2
lead-requires-2 c = search (rules, lent_leaf)

pub bounds-ws-place-2 : goal.bounds-ws-place-2
bounds-ws-place-2 c = simp length-set (search rules)

pub lead-requires-3 : goal.lead-requires-3
lead-requires-3 c = search (rules, lent_leaf)

pub bounds-ws-place-3 : goal.bounds-ws-place-3
bounds-ws-place-3 c = simp length-set (search rules)

pub lead-requires-4 : goal.lead-requires-4
lead-requires-4 c = search (rules, lent_leaf)

pub bounds-ws-place-4 : goal.bounds-ws-place-4
bounds-ws-place-4 c = simp length-set (search rules)

pub returns : goal.returns
returns c = search (rules, four_stores)
