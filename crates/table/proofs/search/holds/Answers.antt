-- What `contains` answers is what `has` says (SearchLaws).
use mathlib.Core.Path.{◌∙◌}
use Rattle.table.proofs.SearchLaws.{has_listed}
use Rattle.table.proofs.search.holds.Goals as goal

pub returns : goal.returns
returns c = c.contains.ensures.value ∙ has_listed c.args.l.now c.args.r
