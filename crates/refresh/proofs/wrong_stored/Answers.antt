-- Either list alone is enough.
use mathlib.Core.Path.{◌∙◌}
use Rattle.refresh.proofs.Entries.{stored_1, stored_2}
use borrow.Author.Rules.{rules}
use Rattle.refresh.proofs.wrong_stored.Goals as goal

pub returns-then-any_above : goal.returns-then-any_above
returns-then-any_above c = c.if-any_above.true ∙ stored_1 _ _ _ c.any_above.ensures c.if-any_above.true

pub returns-else-any_above : goal.returns-else-any_above
returns-else-any_above c = search (rules, stored_2)
