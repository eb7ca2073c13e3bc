-- `row::Grid::put_cell` meets its contract: the two cases of the rule.
use Rattle.file.proofs.Joins.{empty_room, empty_wrote, full_room, full_inside, full_wrote}
use Rattle.file.proofs.row.Grid.put_cell.Goals as goal

pub put-requires : goal.put-requires
put-requires c = search empty_room

pub returns-then-k-eq0 : goal.returns-then-k-eq0
returns-then-k-eq0 c = search empty_wrote

pub put_layers-requires : goal.put_layers-requires
put_layers-requires c = full_room _ _ _ _ _ c.if-k-eq0.false (full_inside _ _ _ (c.args.self.now.filled.inside _) c.if-k-eq0.false) c.requires.room

pub returns : goal.returns
returns c = full_wrote _ _ _ _ _ c.if-k-eq0.false (full_inside _ _ _ (c.args.self.now.filled.inside _) c.if-k-eq0.false) _ _ c.put_layers.ensures
