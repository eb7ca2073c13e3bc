-- `table::wide` meets its contract. Straight line: two reads, each below 65,536.
use Rattle.table.proofs.ViewLaws.{wide_is}
use borrow.Author.Rules.{rules}
use Rattle.table.proofs.wide.Goals as goal

pub returns : goal.returns
returns c = (search (rules, wide_is), search rules)
