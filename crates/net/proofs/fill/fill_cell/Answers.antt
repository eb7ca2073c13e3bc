-- The answers that the check does not find alone.
use Rattle.field.proofs.Places.{stands_at}
use Rattle.net.specs.Fill.{filled}
use Rattle.net.proofs.Fills.{filled_go, filled_size, filled_room, filled-end}
use borrow.Author.Rules.{rules}
use Rattle.net.proofs.fill.fill_cell.Goals as goal

pub loop-j-init : goal.loop-j-init
unfolding filled
loop-j-init c = search rules

pub fill_span-requires : goal.fill_span-requires
fill_span-requires c = record {
  reached = (search rules, search rules);
  stands = (search (rules, stands_at), search (rules, filled_room));
}

pub loop-j-preserved : goal.loop-j-preserved
loop-j-preserved c = (search rules, search (rules, filled_go))

pub shape_of-ws : goal.shape_of-ws
shape_of-ws c = search (rules, filled_size)

pub returns : goal.returns
returns c = search (rules, filled-end)
