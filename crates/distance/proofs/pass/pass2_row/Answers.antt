-- The answers that the check does not find alone.
use Rattle.distance.proofs.Walks.{block_down, pass2_row_end}
use borrow.Author.Rules.{rules}
use Rattle.distance.proofs.pass.pass2_row.Goals as goal

pub loop-x-preserved : goal.loop-x-preserved
loop-x-preserved c = (search rules, search (rules, block_down), search rules)

pub returns : goal.returns
returns c = (search (rules, pass2_row_end), search rules)
