-- The answers that the check does not find alone.
use Prim.Native.Nat.{◌+◌, ◌*◌, ◌≤◌}
use mathlib.Core.Path.{refl, ◌∙◌}
use Rattle.rules.specs.Field.{Field}
use Rattle.field.specs.Seen.{seen}
use Rattle.field.proofs.Passed.{sound_reached}
use Rattle.records.specs.Build.{spans_at}
use Rattle.records.specs.declared.grow.Plan.{Plan}
use Rattle.records.proofs.BuildLaws.{run-start, know_start, cell_in, run_enter, run_next, built}
use native.Mathlib.Omega.{arith}
use Rattle.records.proofs.build.build_records.Goals as goal

pub overflow_mul-c-end : goal.overflow_mul-c-end
overflow_mul-c-end c = let F : Field = seen c.args.field.now in
    let grid : c.args.field.now.w * c.args.field.now.h ≤ 65536 = (sound_reached (F) c.requires.given.sound).celled.grid in
    omega (arith, grid)

pub loop-c-init : goal.loop-c-init
loop-c-init c = let F : Field = seen c.args.field.now in
    (run-start F _ _ _ c.requires.blank.0 _ c.renew.ensures, know_start _ _ _ _ refl)

pub add_cell_at-t-requires : goal.add_cell_at-t-requires
unfolding spans_at
add_cell_at-t-requires c = let F : Field = seen c.args.field.now in
    let P : Plan = record { records = c.args.next + 1; table = c.args.table } in
    record {
      c_in_bounds = cell_in F _ P _ _ c.requires.given c.requires.blank.1 c.renew.ensures _ _ _ c.loop-c.invariant.0 c.loop-c-test.true;
      fact = (run_enter F _ P _ _ c.requires.given c.requires.blank.1 c.renew.ensures _ _ _ c.loop-c.invariant.0 _ refl refl, c.loop-c.invariant.1);
    }

pub overflow_step-c : goal.overflow_step-c
overflow_step-c c = let F : Field = seen c.args.field.now in
    let grid : c.args.field.now.w * c.args.field.now.h ≤ 65536 = (sound_reached (F) c.requires.given.sound).celled.grid in
    omega (arith, grid, c.loop-c-test.true)

pub loop-c-preserved : goal.loop-c-preserved
unfolding spans_at
loop-c-preserved c = let F : Field = seen c.args.field.now in
    let P : Plan = record { records = c.args.next + 1; table = c.args.table } in (
      run_next F _ P _ _ c.requires.given c.requires.blank.1 c.renew.ensures _ _ _ c.loop-c.invariant.0 _ refl refl c.loop-c-test.true _ _ c.add_cell_at-t.ensures.0,
      c.add_cell_at-t.ensures.1,
    )

pub shape_of-ws : goal.shape_of-ws
shape_of-ws c = c.loop-c.invariant.0.size ∙ c.renew.auto.ws

pub returns : goal.returns
returns c = let F : Field = seen c.args.field.now in
    built F _ _ _ _ _ _ c.requires.given c.renew.ensures _ _ c.loop-c.invariant.0 c.loop-c-test.false
