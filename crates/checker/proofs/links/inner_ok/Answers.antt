-- `inner_ok` tests two connections. If the first fails it decides the whole, else the second does.
use Rattle.checker.proofs.Answered.{span_con, span_halt, span-end}
use borrow.Author.Rules.{rules}
use Rattle.checker.proofs.links.inner_ok.Goals as goal

pub link_ok-requires : goal.link_ok-requires
link_ok-requires c = ((search rules, search rules), search (rules, span_con), search rules, search rules)

pub returns-else-link_ok : goal.returns-else-link_ok
returns-else-link_ok c = search (rules, span_halt)

pub link_ok-requires-then-link_ok : goal.link_ok-requires-then-link_ok
link_ok-requires-then-link_ok c = ((search rules, search rules), search (rules, span_con), search rules, search rules)

pub returns-then-link_ok : goal.returns-then-link_ok
returns-then-link_ok c = search (rules, span-end)
