-- `pool::lists::trim` meets its contract, by cases on the length and on the last entry.
use native.Mathlib.Omega.{arith}
use Rattle.pool.proofs.ListLaws.{trim_low, trim_drops, trim_keeps}
use borrow.Author.Rules.{rules}
use Rattle.pool.proofs.lists.trim.Goals as goal
use Rattle.pool.proofs.lists.trim.Goals.{else-k-gt1-via-then-k-gt1+else-l-k, else-k-gt1-via-else-k-gt1}

pub returns-then-l-k : goal.returns-then-l-k
returns-then-l-k c = (search (rules, trim_drops), search rules)

pub returns-else-k-gt1 : goal.returns-else-k-gt1
returns-else-k-gt1 c =
    elim c.else-k-gt1.branch [
      | else-k-gt1-via-then-k-gt1+else-l-k w ↦ (search (rules, trim_keeps), omega arith)
      | else-k-gt1-via-else-k-gt1 w ↦ (search (rules, trim_low), omega arith)
    ]
