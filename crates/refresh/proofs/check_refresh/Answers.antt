-- Refusals 1 to 6 are the checker's; 11 and 31 come after them.
use Rattle.std.proofs.lemmas.Result.{err_from_is_err_and}
use Rattle.refresh.proofs.Entries.{check_refused, check_11, check_31, check_0}
use Rattle.refresh.proofs.check_refresh.Goals as goal

pub returns-in_err-check_three : goal.returns-in_err-check_three
returns-in_err-check_three c = let p = err_from_is_err_and c.from_residual.result c.from_residual.ensures.1 in rw (p.1, p.2) (check_refused _ _ _ _ _ _ c.in_err-check_three.ensures)

pub returns-then-wrong_rect : goal.returns-then-wrong_rect
returns-then-wrong_rect c = check_11 _ _ _ _ _ c.in_ok-check_three.ensures _ c.wrong_rect.ensures c.if-wrong_rect.true

pub returns-then-wrong_stored : goal.returns-then-wrong_stored
returns-then-wrong_stored c = check_31 _ _ _ _ _ c.in_ok-check_three.ensures _ c.wrong_rect.ensures c.if-wrong_rect.false _ c.wrong_stored.ensures c.if-wrong_stored.true

pub returns : goal.returns
returns c = check_0 _ _ _ _ _ c.in_ok-check_three.ensures _ c.wrong_rect.ensures c.if-wrong_rect.false _ c.wrong_stored.ensures c.if-wrong_stored.false
