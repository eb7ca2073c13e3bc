-- A sound verdict gives what the stages require; a refusal is given before anything is written.
use Rattle.std.proofs.lemmas.Result.{err_from_is_err_and}
use Rattle.refresh.proofs.Entries.{stages_refused, stages_sound, stages_sizes, stages_done}
use Rattle.refresh.proofs.build_distance_stages.Goals as goal

pub build_stages-requires : goal.build_stages-requires
build_stages-requires c = let s = stages_sizes _ _ _ _ c.in_ok-check_three.ensures in (stages_sound _ _ _ _ c.in_ok-check_three.ensures, s.0, s.1, s.2)

pub returns-in_err-check_three : goal.returns-in_err-check_three
returns-in_err-check_three c = let p = err_from_is_err_and c.from_residual.result c.from_residual.ensures.1 in rw (p.1, p.2) (stages_refused _ _ _ _ _ c.in_err-check_three.ensures)

pub returns : goal.returns
returns c = stages_done _ _ _ _ c.in_ok-check_three.ensures _ _ _ _ c.build_stages.ensures.0 c.build_stages.ensures.1 c.build_stages.ensures.2 c.build_stages.ensures.3
