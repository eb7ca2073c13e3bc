-- The answers that the check does not find alone.
use mathlib.Core.Path.{◌≡◌, refl, ◌∙◌}
use Prim.Native.Nat.{suc, ◌-◌}
use native.Mathlib.Omega.{arith}
use Rattle.std.proofs.lemmas.Result.{err_from_is_err_and}
use Rattle.growth.proofs.Stopped.{some_stop}
use Rattle.growth.proofs.TurnsLaws.{told-first, turns_start, turns_next, turns_told, turns_stopped, turns_end}
use Rattle.growth.proofs.turns.turns.Goals as goal

pub loop-left-init : goal.loop-left-init
loop-left-init c = let e : c.args.count - c.args.count ≡ 0 = omega arith in
    (omega arith, rw e (turns_start _ _ _ _ _ _ _ _ c.requires.between.0 _), rw e (told-first _ _ _ _ _ _ _ _ c.requires.between.0 _))

pub overflow_mul-left : goal.overflow_mul-left
overflow_mul-left c = omega (arith, c.loop-left.invariant.0, c.requires.count_bound, c.loop-left-test.true)

pub turn-requires : goal.turn-requires
turn-requires c = (c.loop-left.invariant.1.between, c.requires.between.1)

pub shape_of-ids-in_err-t : goal.shape_of-ids-in_err-t
shape_of-ids-in_err-t c = omega (arith, c.turn.auto.ids, c.loop-left.invariant.1.between.ids_below.size, c.requires.between.0.ids_below.size)

pub shape_of-ws-in_err-t : goal.shape_of-ws-in_err-t
shape_of-ws-in_err-t c = c.turn.auto.ws ∙ c.loop-left.invariant.1.size

pub returns-in_err-t : goal.returns-in_err-t
returns-in_err-t c = let p = err_from_is_err_and c.from_residual.result c.from_residual.ensures.1 in
    rw (p.1, p.2) (record {
      fact = turns_stopped _ _ _ _ _ _ _ _ c.requires.between.0 _ _ _ _ _ _ c.loop-left.invariant.1 _ (omega (arith, c.loop-left-test.true, c.loop-left.invariant.0)) _ _ _ _ _ _ c.in_err-t.ensures.fact
          (omega (arith, c.loop-left-test.true, c.loop-left.invariant.0)) (some_stop _) _;
      story_value = λ z. absurd (some_stop _ z);
    })

pub loop-left-preserved : goal.loop-left-preserved
loop-left-preserved c = let e : c.args.count - (c.loop-left.left - 1) ≡ suc (c.args.count - c.loop-left.left) = omega (arith, c.loop-left-test.true, c.loop-left.invariant.0) in (
  omega (arith, c.loop-left.invariant.0),
  rw e (turns_next _ _ _ _ _ _ _ _ c.requires.between.0 _ _ _ _ _ _ c.loop-left.invariant.1 _ (omega (arith, c.loop-left-test.true, c.loop-left.invariant.0)) _ _ _ _ _ _ c.in_ok-t.ensures.fact refl),
  rw e (turns_told _ _ _ _ _ _ _ _ c.requires.between.0 _ _ _ _ _ _ c.loop-left.invariant.1 _ (omega (arith, c.loop-left-test.true, c.loop-left.invariant.0)) _ _ _ _ _ _ c.in_ok-t.ensures.fact refl
      _ _ _ c.loop-left.invariant.2 c.in_ok-t.ensures.fact_2),
)

pub shape_of-ids : goal.shape_of-ids
shape_of-ids c = omega (arith, c.loop-left.invariant.1.between.ids_below.size, c.requires.between.0.ids_below.size)

pub shape_of-ws : goal.shape_of-ws
shape_of-ws c = c.loop-left.invariant.1.size

pub returns : goal.returns
returns c = let e : c.args.count - c.loop-left.left ≡ c.args.count = omega (arith, c.loop-left-test.false) in
    record {
      fact = turns_end _ _ _ _ _ _ _ _ c.requires.between.0 _ _ _ _ _ _ c.loop-left.invariant.1 e;
      story_value = λ _. rw e at c.loop-left.invariant.2;
    }
