-- Painting and the table of neighbours give what the turns ask; what they leave, with the source distances zeroed, is the rule's growth (FirstLaws).
use mathlib.Core.Path.{refl, sym, ◌∙◌}
use native.Mathlib.Omega.{arith}
use Rattle.growth.proofs.FirstLaws.{reached-first, cells_first, few_first, size_first, plot_first, between_first, rule_story, full_settled, whole}
use Rattle.growth.proofs.grow.grow.Goals as goal

pub paint_border-first-requires : goal.paint_border-first-requires
paint_border-first-requires c = (cells_first _ _ _ _ _ _ _ _ _ c.requires.0, size_first _ _ _ _ _ _ _ _ _ c.requires.0, c.requires.0.none, plot_first _ _ _ _ _ _ _ _ _ c.requires.0)

pub fill_neighbours-requires : goal.fill_neighbours-requires
fill_neighbours-requires c = record {
  reached = reached-first _ _ _ _ _ _ _ _ _ c.requires.0;
  table_le_last_place = (c.requires.0.close, c.requires.0.room);
}

pub sections-requires : goal.sections-requires
sections-requires c = (few_first _ _ _ _ _ _ _ _ _ c.requires.0, c.requires.0.past)

pub grow_painted-g-requires : goal.grow_painted-g-requires
grow_painted-g-requires c = (
  between_first _ _ _ _ _ _ c.args.dist.now _ c.args.max_distance _ _ _ c.requires.0 _ c.paint_border-first.ensures.value _ c.paint_border-first.ensures.ids_after _
      c.fill_neighbours.ensures.ws_after c.fill_neighbours.ensures.frame c.fill_neighbours.auto.ws _ c.sections.ensures.0 c.sections.ensures.1,
  c.requires.1,
)

pub settle-requires : goal.settle-requires
settle-requires c = omega (
  arith,
  c.grow_painted-g.auto.ids,
  c.grow_painted-g.auto.ws,
  c.paint_border-first.auto.ids,
  c.fill_neighbours.auto.ws,
  c.requires.0.room,
  c.requires.0.past,
  size_first _ _ _ _ _ _ _ _ _ c.requires.0,
)

pub shape_of-ids : goal.shape_of-ids
shape_of-ids c = c.settle.auto.ids ∙ c.grow_painted-g.auto.ids ∙ c.paint_border-first.auto.ids

pub returns : goal.returns
returns c = let settled = c.settle.ensures c.args.watched in
    record {
      fact = full_settled _ _ _ _ _ _ _ _ _ _ _ _ c.requires.0 _ c.paint_border-first.ensures.value _ c.paint_border-first.ensures.ids_after _ c.fill_neighbours.ensures.ws_after c.fill_neighbours.ensures.frame c.fill_neighbours.auto.ws
          _ _ _ _ _ c.sections.ensures.1 c.grow_painted-g.ensures.fact c.grow_painted-g.auto.ws c.grow_painted-g.auto.ids _ _ _ _ _ _ _ c.settle.auto.ws settled;
      story_value = λ z. settled.told (sym settled.same ∙ z) ∙ rw c.begins.ensures at (c.grow_painted-g.ensures.story_value (sym settled.same ∙ z))
          ∙ rule_story _ _ _ _ _ _ _ _ _ _ _ _ c.requires.0 _ c.paint_border-first.ensures.value _ c.paint_border-first.ensures.ids_after _ c.fill_neighbours.ensures.ws_after c.fill_neighbours.ensures.frame c.fill_neighbours.auto.ws
          _ _ refl _ c.sections.ensures.1;
      whole = whole _ _ _ _ _ _ _ _ _ _ _ _ c.requires.0 _ c.paint_border-first.ensures.value _ c.paint_border-first.ensures.ids_after _ c.fill_neighbours.ensures.ws_after c.fill_neighbours.ensures.frame c.fill_neighbours.auto.ws
          _ _ _ _ _ c.sections.ensures.1 c.grow_painted-g.ensures.fact c.grow_painted-g.auto.ws c.grow_painted-g.auto.ids _ _ _ _ _ _ _ c.settle.auto.ws settled;
      untold = λ z. settled.untold (λ q. z (settled.same ∙ q));
    }
