-- What is not refused gives what the refresh requires; a refusal is given before anything is written.
use Rattle.std.proofs.lemmas.Result.{err_from_is_err_and}
use Rattle.refresh.proofs.Entries.{out_refused, fine_sound, fine_rows, fine_low1, fine_low2, fine_blurred, out_done}
use Rattle.refresh.proofs.refresh_distance_field.Goals as goal

pub refresh_rows-requires : goal.refresh_rows-requires
refresh_rows-requires c =
    let e = c.in_ok-check_refresh.ensures in
    let b = c.args.blurred.now in
    let r = fine_rows _ _ _ b _ _ _ _ e in
    (fine_sound _ _ _ b _ _ _ _ e, r.0, r.1, fine_low1 _ _ _ b _ _ _ _ e, fine_low2 _ _ _ b _ _ _ _ e, fine_blurred _ _ _ b _ _ _ _ e)

pub returns-in_err-check_refresh : goal.returns-in_err-check_refresh
returns-in_err-check_refresh c = let p = err_from_is_err_and c.from_residual.result c.from_residual.ensures.1 in rw (p.1, p.2) (out_refused _ _ _ _ _ _ c.in_err-check_refresh.ensures)

pub returns : goal.returns
returns c = out_done _ _ _ _ _ _ _ _ c.in_ok-check_refresh.ensures _ c.refresh_rows.ensures
