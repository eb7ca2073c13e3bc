-- The ids stand past the table, which growth leaves alone, so they can be put back where it is stopped (StageLaws).
use native.Mathlib.Omega.{arith}
use mathlib.Core.Path.{refl, sym, ◌∙◌}
use Rattle.growth.proofs.Stopped.{err_stops, ok_goes}
use Rattle.watershed.proofs.StageLaws.{few, kept_room, poised, raised, put_back}
use Rattle.watershed.proofs.regions.grow_regions.Goals as goal

pub overflow_mul-kept : goal.overflow_mul-kept
overflow_mul-kept c = omega (arith, few _ _ _ _ _ _ _ _ _ c.requires.0)

pub overflow_add-kept : goal.overflow_add-kept
overflow_add-kept c = omega (arith, few _ _ _ _ _ _ _ _ _ c.requires.0, c.requires.1)

pub copy_part-requires : goal.copy_part-requires
copy_part-requires c = kept_room _ _ _ _ _ _ _ _ _ c.requires.0 _ c.requires.1 _ refl

pub overflow_mul-n : goal.overflow_mul-n
overflow_mul-n c = omega (arith, few _ _ _ _ _ _ _ _ _ c.requires.0)

pub clear_part-requires : goal.clear_part-requires
clear_part-requires c = (omega arith, omega (arith, c.copy_part.auto.ws, c.requires.1, c.requires.0.room))

pub grow-g-requires : goal.grow-g-requires
grow-g-requires c = (poised _ _ _ _ _ _ _ _ _ c.requires.0 _ c.requires.1 _ _ c.clear.ensures (c.clear_part.auto.ws ∙ c.copy_part.auto.ws) c.clear_part.ensures.0, c.requires.0.distances)

pub put_back-requires : goal.put_back-requires
put_back-requires c = omega (
  arith,
  kept_room _ _ _ _ _ _ _ _ _ c.requires.0 _ c.requires.1 _ refl,
  c.grow-g.auto.ids,
  c.grow-g.auto.ws,
  c.clear_part.auto.ws,
  c.clear.auto.s,
  c.copy_part.auto.ws,
)

pub shape_of-ws-then-is_err : goal.shape_of-ws-then-is_err
shape_of-ws-then-is_err c = c.grow-g.auto.ws ∙ c.clear_part.auto.ws ∙ c.copy_part.auto.ws

pub returns-then-is_err : goal.returns-then-is_err
returns-then-is_err c = let size = c.grow-g.auto.ids ∙ c.clear.auto.s in
    let stopped = err_stops _ (sym c.is_err.ensures.value ∙ c.if-is_err.true) in
    record {
      fact = put_back _ _ _ _ _ _ _ _ _ c.requires.0 _ c.requires.1 _ refl _ c.copy_part.auto.ws c.copy_part.ensures.0 _ c.clear_part.auto.ws c.clear_part.ensures.1
          _ _ _ _ _ _ c.grow-g.ensures.fact c.grow-g.auto.ws _ _ size c.put_back.ensures stopped;
      story_value = λ o. absurd (stopped o);
    }

pub returns-else-is_err : goal.returns-else-is_err
returns-else-is_err c = record {
  fact = raised _ _ _ _ _ _ _ _ _ c.requires.0 _ c.requires.1 _ refl _ c.copy_part.auto.ws c.copy_part.ensures.0 _ c.clear_part.auto.ws c.clear_part.ensures.1
      _ _ _ _ _ _ c.grow-g.ensures.fact c.grow-g.auto.ws (ok_goes _ (sym c.is_err.ensures.value ∙ c.if-is_err.false));
  story_value = c.grow-g.ensures.story_value;
}
