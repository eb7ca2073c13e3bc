-- The walk asks half of the connections, and the numbers of both halves tell of the rest.
use Rattle.checker.proofs.Halves.{halves_halt, halves-end}
use borrow.Author.Rules.{rules}
use Rattle.checker.proofs.links.links_ok.Goals as goal

pub returns-else-rows_ok : goal.returns-else-rows_ok
returns-else-rows_ok c = search (rules, halves_halt)

pub returns-then-rows_ok : goal.returns-then-rows_ok
returns-then-rows_ok c = search (rules, halves-end)
