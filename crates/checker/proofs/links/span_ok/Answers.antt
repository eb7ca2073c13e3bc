-- `span_ok` hands the span's four connections on; an inner cell has a cell on every side.
use Rattle.checker.proofs.Answered.{span_room, span_cons, span_link, inner_is}
use borrow.Author.Rules.{rules}
use Rattle.checker.proofs.links.span_ok.Goals as goal

pub connections-cons-requires : goal.connections-cons-requires
connections-cons-requires c = search (rules, span_room)

pub inner_ok-requires : goal.inner_ok-requires
inner_ok-requires c = ((search rules, search rules), search (rules, span_cons), search (rules, inner_is))

pub returns-then-inner : goal.returns-then-inner
returns-then-inner c = search (rules, span_link)

pub edge_ok-requires : goal.edge_ok-requires
edge_ok-requires c = ((search rules, search rules), search (rules, span_cons), search rules)

pub returns : goal.returns
returns c = search (rules, span_link)
