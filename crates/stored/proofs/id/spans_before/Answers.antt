-- Before the first stretch there are none; before another the number after the one before it.
use Rattle.stored.proofs.Halving.{before_none, before_mark}
use borrow.Author.Rules.{rules}
use Rattle.stored.proofs.id.spans_before.Goals as goal

pub returns-then-p-eq0 : goal.returns-then-p-eq0
returns-then-p-eq0 c = (search (rules, before_none), search rules)

pub returns-else-p-eq0 : goal.returns-else-p-eq0
returns-else-p-eq0 c = (search (rules, before_mark), search rules)
