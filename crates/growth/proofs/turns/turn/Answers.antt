-- Loading leaves what the expansion asks, that what the floods ask, and the three together are the rule's turn, or what stops it (WholeTurn).
use mathlib.Core.Path.{◌≡◌, ◌∙◌}
use native.Mathlib.Omega.{arith}
use lib.ListN.{length}
use Rattle.growth.proofs.KeptLaws.{few_spans, flags_at}
use Rattle.growth.proofs.ExpandTurn.{given_as, expanded_as, strays_as, held_as, told_as}
use Rattle.growth.proofs.FloodTurn.{between_placed, flooded}
use Rattle.growth.proofs.WholeTurn.{ready_turn, turn_strayed, turn_out, turned, turn-told, stopped_told}
use Rattle.growth.proofs.turns.turn.Goals as goal

pub load-stacks-requires : goal.load-stacks-requires
load-stacks-requires c = record {
  area_len_bound = (few_spans _ _ _ _ _ _ _ _ c.requires.0, c.requires.1, c.requires.0.ids_below.size);
  sections_for = (c.requires.0.laid, omega (arith, c.requires.0.lent.room), c.requires.0.turn, c.requires.0.left);
}

pub turn_stack-stack-requires : goal.turn_stack-stack-requires
turn_stack-stack-requires c = let r = ready_turn _ _ _ _ _ _ _ _ _ _ c.requires.0 _ _ _ c.load-stacks.auto.ws c.load-stacks.ensures in
    (few_spans _ _ _ _ _ _ _ _ c.requires.0, r.between.turn, r.fits.eight)

pub expand_regions-e-requires : goal.expand_regions-e-requires
expand_regions-e-requires c = let r = ready_turn _ _ _ _ _ _ _ _ _ _ c.requires.0 _ _ _ c.load-stacks.auto.ws c.load-stacks.ensures in
    record {
      fact = (r.between.both_ways, flags_at _ _ _ _ _ _ _ _ r.between);
      given = given_as _ _ _ _ _ _ _ _ r _ _ c.turn_stack-stack.ensures.0 c.turn_stack-stack.ensures.1;
    }

pub flood_all-f-requires : goal.flood_all-f-requires
flood_all-f-requires c = let r = ready_turn _ _ _ _ _ _ _ _ _ _ c.requires.0 _ _ _ c.load-stacks.auto.ws c.load-stacks.ensures in
    let e = (expanded_as _ _ _ _ _ _ _ _ r _ _ c.turn_stack-stack.ensures.0 c.turn_stack-stack.ensures.1 _ _ _ c.expand_regions-e.ensures.ws_after c.expand_regions-e.ensures.kept).ready in
    record {
      lent = (e.between.lent, between_placed _ _ _ _ _ _ _ _ _ e.between c.requires.1);
      blank = (e.between.stack, e.between.ids_below);
      entries_at = held_as _ _ _ _ _ _ _ _ e _ _ c.turn_stack-stack.ensures.0 c.turn_stack-stack.ensures.1;
    }

pub returns-then-e : goal.returns-then-e
returns-then-e c = let r = ready_turn _ _ _ _ _ _ _ _ _ _ c.requires.0 _ _ _ c.load-stacks.auto.ws c.load-stacks.ensures in
    record {
      fact = turn_strayed _ _ _ _ _ _ _ _ _ _ c.requires.0 _ _ _ c.load-stacks.auto.ws c.load-stacks.ensures _ _ (expanded_as _ _ _ _ _ _ _ _ r _ _ c.turn_stack-stack.ensures.0 c.turn_stack-stack.ensures.1 _ _ _ c.expand_regions-e.ensures.ws_after c.expand_regions-e.ensures.kept)
          _ (strays_as _ _ _ _ _ _ _ _ r _ _ c.turn_stack-stack.ensures.0 c.turn_stack-stack.ensures.1 _ _ c.expand_regions-e.ensures.strays_value) c.if-e.true _ _ _;
      fact_2 = stopped_told _ _ _ _ _ _ _ _ _ _ _ _ (omega arith);
    }

pub shape_of-ws-then-f : goal.shape_of-ws-then-f
shape_of-ws-then-f c = let ws-kept : length c.flood_all-f.new.ws ≡ length c.args.ws.now = c.flood_all-f.auto.ws ∙ c.expand_regions-e.auto.ws ∙ c.load-stacks.auto.ws in
    ws-kept

pub returns-then-f : goal.returns-then-f
returns-then-f c = let r = ready_turn _ _ _ _ _ _ _ _ _ _ c.requires.0 _ _ _ c.load-stacks.auto.ws c.load-stacks.ensures in
    let e = expanded_as _ _ _ _ _ _ _ _ r _ _ c.turn_stack-stack.ensures.0 c.turn_stack-stack.ensures.1 _ _ _ c.expand_regions-e.ensures.ws_after c.expand_regions-e.ensures.kept in
    record {
      fact = turn_out _ _ _ _ _ _ _ _ _ _ c.requires.0 _ _ _ c.load-stacks.auto.ws c.load-stacks.ensures _ _ e _ (strays_as _ _ _ _ _ _ _ _ r _ _ c.turn_stack-stack.ensures.0 c.turn_stack-stack.ensures.1 _ _ c.expand_regions-e.ensures.strays_value) c.if-e.false
          _ _ _ (flooded _ _ _ _ _ _ _ _ _ e.ready _ _ c.turn_stack-stack.ensures.0 c.turn_stack-stack.ensures.1 _ _ _ _ c.flood_all-f.ensures.fact c.flood_all-f.auto.ws) c.if-f.true _ _ _;
      fact_2 = stopped_told _ _ _ _ _ _ _ _ _ _ _ _ (omega arith);
    }

pub shape_of-ws : goal.shape_of-ws
shape_of-ws c = let ws-kept : length c.flood_all-f.new.ws ≡ length c.args.ws.now = c.flood_all-f.auto.ws ∙ c.expand_regions-e.auto.ws ∙ c.load-stacks.auto.ws in
    ws-kept

pub returns : goal.returns
returns c = let r = ready_turn _ _ _ _ _ _ _ _ _ _ c.requires.0 _ _ _ c.load-stacks.auto.ws c.load-stacks.ensures in
    let e = expanded_as _ _ _ _ _ _ _ _ r _ _ c.turn_stack-stack.ensures.0 c.turn_stack-stack.ensures.1 _ _ _ c.expand_regions-e.ensures.ws_after c.expand_regions-e.ensures.kept in
    let n = strays_as _ _ _ _ _ _ _ _ r _ _ c.turn_stack-stack.ensures.0 c.turn_stack-stack.ensures.1 _ _ c.expand_regions-e.ensures.strays_value in
    let m = flooded _ _ _ _ _ _ _ _ _ e.ready _ _ c.turn_stack-stack.ensures.0 c.turn_stack-stack.ensures.1 _ _ _ _ c.flood_all-f.ensures.fact c.flood_all-f.auto.ws in
    record {
      fact = turned _ _ _ _ _ _ _ _ _ _ c.requires.0 _ _ _ c.load-stacks.auto.ws c.load-stacks.ensures _ _ e _ n c.if-e.false _ _ _ m c.if-f.false;
      fact_2 = turn-told _ _ _ _ _ _ _ _ _ _ c.requires.0 _ _ _ c.load-stacks.auto.ws c.load-stacks.ensures _ _ e _ n c.if-e.false _ _ _ m c.if-f.false _ _ c.turn_stack-stack.ensures.0 c.turn_stack-stack.ensures.1 _ _ _
          (told_as _ _ _ _ _ _ _ _ r _ _ c.turn_stack-stack.ensures.0 c.turn_stack-stack.ensures.1 _ _ _ c.expand_regions-e.ensures.story_value) (c.flood_all-f.ensures.story_value c.if-f.false);
    }
