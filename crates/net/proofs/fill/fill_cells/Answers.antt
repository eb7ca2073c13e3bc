-- The answers that the check does not find alone.
use Rattle.rules.specs.Base.{upto}
use Rattle.net.specs.Fill.{filled_cells}
use Rattle.net.proofs.Fills.{cells_go, cells_end, cells_size, cells_room}
use borrow.Author.Rules.{rules}
use Rattle.net.proofs.fill.fill_cells.Goals as goal

pub loop-j-init : goal.loop-j-init
unfolding filled_cells upto
loop-j-init c = search rules

pub fill_cell-requires : goal.fill_cell-requires
fill_cell-requires c = record {
  reached = (search rules, search rules);
  c_bound = (search rules, search (rules, cells_room));
}

pub loop-j-preserved : goal.loop-j-preserved
loop-j-preserved c = (search rules, search (rules, cells_go))

pub shape_of-ws : goal.shape_of-ws
shape_of-ws c = search (rules, cells_size)

pub returns : goal.returns
returns c = search (rules, cells_end)
