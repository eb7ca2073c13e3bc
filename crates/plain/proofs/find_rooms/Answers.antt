-- Each stage has what it asks, and the caller's ids stand where none of them writes (Stages).
use native.Mathlib.Omega.{arith}
use mathlib.Core.Path.{◌∙◌}
use Rattle.plain.proofs.Stages.{field_reached, field_few, cells_are, plot_of, zeros_are, zeros_long, held, painted_long, finds_rooms, finds-none}
use Rattle.plain.proofs.find_rooms.Goals as goal

pub copy_part-requires : goal.copy_part-requires
copy_part-requires c = omega (arith, c.requires.idents, c.requires.room)

pub paint_border-requires : goal.paint_border-requires
paint_border-requires c = (
  cells_are _ _ _ _ _ _ _ _ c.requires,
  zeros_long _ _ _ _ _ _ _ _ c.requires _ c.clear.ensures,
  zeros_are _ _ _ _ _ _ _ _ c.requires _ c.clear.ensures,
  plot_of _ _ _ _ _ _ _ _ c.requires,
)

pub fill_neighbours-requires : goal.fill_neighbours-requires
fill_neighbours-requires c = record {
  reached = field_reached _ _ _ _ _ _ _ _ c.requires;
  table_le_last_place = (omega (arith, field_few _ _ _ _ _ _ _ _ c.requires), omega (arith, c.requires.room, c.copy_part.auto.ws));
}

pub number_rooms-most-requires : goal.number_rooms-most-requires
number_rooms-most-requires c = (
  held _ _ _ _ _ _ _ _ c.requires _ _ c.paint_border.ensures.ids_after _ _ c.copy_part.auto.ws c.fill_neighbours.auto.ws c.fill_neighbours.ensures.ws_after c.fill_neighbours.ensures.frame,
  painted_long _ _ _ _ _ _ _ _ c.requires _ _ c.paint_border.ensures.ids_after _ _ c.copy_part.auto.ws c.fill_neighbours.auto.ws c.fill_neighbours.ensures.ws_after c.fill_neighbours.ensures.frame,
)

pub put_back-requires : goal.put_back-requires
put_back-requires c = omega (
  arith,
  c.requires.room,
  c.requires.idents,
  c.number_rooms-most.auto.ids,
  c.number_rooms-most.auto.ws,
  c.fill_neighbours.auto.ws,
  c.paint_border.auto.ids,
  c.clear.auto.s,
  c.copy_part.auto.ws,
)

pub returns-then-most-gt-MOST_ROOMS : goal.returns-then-most-gt-MOST_ROOMS
returns-then-most-gt-MOST_ROOMS c = let size = c.number_rooms-most.auto.ids ∙ c.paint_border.auto.ids ∙ c.clear.auto.s in
    finds-none _ _ _ _ _ _ _ _ c.requires _ _ c.paint_border.ensures.ids_after _ _ c.copy_part.auto.ws c.fill_neighbours.auto.ws c.fill_neighbours.ensures.ws_after c.fill_neighbours.ensures.frame
    c.copy_part.ensures.0 _ _ _ c.number_rooms-most.ensures.ws_unchanged c.number_rooms-most.ensures.result_after _ _ size c.put_back.ensures c.if-most-gt-MOST_ROOMS.true

pub returns-else-most-gt-MOST_ROOMS : goal.returns-else-most-gt-MOST_ROOMS
returns-else-most-gt-MOST_ROOMS c = finds_rooms _ _ _ _ _ _ _ _ c.requires _ _ c.paint_border.ensures.ids_after _ _ c.copy_part.auto.ws c.fill_neighbours.auto.ws c.fill_neighbours.ensures.ws_after c.fill_neighbours.ensures.frame
    c.copy_part.ensures.0 _ _ _ c.number_rooms-most.ensures.ws_unchanged c.number_rooms-most.ensures.result_after c.if-most-gt-MOST_ROOMS.false
