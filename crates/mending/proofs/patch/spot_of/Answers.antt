-- The answers that the check does not find alone.
use Rattle.mending.proofs.Spots.{cell-start, layer_start, cell_found, layer_found, cell_on_lem, layer_on, cell-end, layer_end}
use borrow.Author.Rules.{rules}
use Rattle.mending.proofs.patch.spot_of.Goals as goal

pub loop-cell-init : goal.loop-cell-init
loop-cell-init c = (search (rules, cell-start), search (rules, layer_start))

pub loop-cell-preserved : goal.loop-cell-preserved
loop-cell-preserved c = (search (rules, cell_on_lem), search (rules, layer_on))

pub returns-then-left-k : goal.returns-then-left-k
returns-then-left-k c = (search (rules, cell_found), search (rules, layer_found), search rules)

pub returns : goal.returns
returns c = (search (rules, cell-end), search (rules, layer_end), search rules)
