-- `filter::remove::lists_flagged` meets its contract: the flagged ids are those above the last that is not.
use mathlib.Core.Path.{◌∙◌}
use Rattle.filter.proofs.RemoveLaws.{lists_above}
use Rattle.filter.proofs.remove.lists_flagged.Goals as goal

pub returns : goal.returns
returns c = c.any_above.ensures ∙ lists_above _
