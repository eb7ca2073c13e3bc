-- After the turns the level stacks are zeroed, and the last expansion gives the rule's marks (GrowLaws).
use Prim.Native.Nat.{◌+◌, ◌/◌, ◌%◌}
use mathlib.Core.Path.{◌≡◌, refl}
use native.Mathlib.Omega.{arith}
use Rattle.growth.specs.Grow.{turns_for}
use Rattle.growth.proofs.KeptLaws.{flags_at}
use Rattle.std.proofs.lemmas.Result.{err_from_is_err_and}
use Rattle.growth.proofs.Stopped.{some_stop}
use Rattle.growth.proofs.GrowLaws.{grew_stopped, last_mutual, last_ready, grew_strayed, grew, grew_told}
use Rattle.growth.proofs.grow.grow_painted.Goals as goal

pub clear_part-requires : goal.clear_part-requires
clear_part-requires c = (omega (arith, c.requires.0.laid.changes), omega (arith, c.requires.0.laid.changes, c.requires.0.laid.past, c.requires.0.lent.room, c.turns.auto.ws))

pub expand_last-e-requires : goal.expand_last-e-requires
expand_last-e-requires c = let counted : c.args.max_distance / 2 + c.args.max_distance % 2 ≡ turns_for c.args.max_distance = omega arith in
    record {
      fact = (last_mutual _ _ _ _ _ _ _ _ c.requires.0 _ counted _ _ _ _ c.turns.auto.ws c.in_ok-g.ensures.fact refl _ c.clear_part.auto.ws c.clear_part.ensures.0 c.clear_part.ensures.1, flags_at _ _ _ _ _ _ _ _ c.requires.0);
      last = last_ready _ _ _ _ _ _ _ _ c.requires.0 _ counted _ _ _ _ c.turns.auto.ws c.in_ok-g.ensures.fact refl _ c.clear_part.auto.ws c.clear_part.ensures.0 c.clear_part.ensures.1;
    }

pub returns-in_err-g : goal.returns-in_err-g
returns-in_err-g c = let counted : c.args.max_distance / 2 + c.args.max_distance % 2 ≡ turns_for c.args.max_distance = omega arith in
    let p = err_from_is_err_and c.from_residual.result c.from_residual.ensures.1 in
    rw (p.1, p.2) (record {
      fact = grew_stopped _ _ _ _ _ _ _ _ counted _ _ _ _ c.in_err-g.ensures.fact (some_stop _);
      story_value = λ z. absurd (some_stop _ z);
    })

pub returns-then-e : goal.returns-then-e
returns-then-e c = let counted : c.args.max_distance / 2 + c.args.max_distance % 2 ≡ turns_for c.args.max_distance = omega arith in
    record {
      fact = grew_strayed _ _ _ _ _ _ _ _ c.requires.0 _ counted _ _ _ _ c.turns.auto.ws c.in_ok-g.ensures.fact refl _ c.clear_part.auto.ws c.clear_part.ensures.0 c.clear_part.ensures.1
          _ _ c.expand_last-e.ensures.ws_after _ c.expand_last-e.ensures.strays_value c.expand_last-e.ensures.ws_unchanged _ c.if-e.true;
      story_value = λ z. absurd (omega arith);
    }

pub returns : goal.returns
returns c = let counted : c.args.max_distance / 2 + c.args.max_distance % 2 ≡ turns_for c.args.max_distance = omega arith in
    record {
      fact = grew _ _ _ _ _ _ _ _ c.requires.0 _ counted _ _ _ _ c.turns.auto.ws c.in_ok-g.ensures.fact refl _ c.clear_part.auto.ws c.clear_part.ensures.0 c.clear_part.ensures.1
          _ _ c.expand_last-e.ensures.ws_after _ c.expand_last-e.ensures.strays_value c.expand_last-e.ensures.ws_unchanged c.if-e.false;
      story_value = λ _. grew_told _ _ _ _ _ _ _ _ c.requires.0 _ counted _ _ _ _ c.turns.auto.ws c.in_ok-g.ensures.fact refl _ c.clear_part.auto.ws c.clear_part.ensures.0 c.clear_part.ensures.1
          _ _ _ (c.in_ok-g.ensures.story_value refl) c.expand_last-e.ensures.story_value;
    }
