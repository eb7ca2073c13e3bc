-- The arms are the cases of the outcome (Outcome).
use Rattle.sizes.proofs.Outcome.{measure_celled, measure_long, measure_refused, measure_scale, measure_ids, measure_done}
use borrow.Author.Rules.{rules}
use Rattle.sizes.proofs.measure_room.Goals as goal

pub returns-then-wrong_scale : goal.returns-then-wrong_scale
returns-then-wrong_scale c = measure_scale _ _ _ _ _ _ c.check.ensures c.in_ok-check.was _ c.wrong_scale.ensures c.if-wrong_scale.true

pub returns-then-wrong_ids : goal.returns-then-wrong_ids
returns-then-wrong_ids c = measure_ids _ _ _ _ _ _ c.check.ensures c.in_ok-check.was _ c.wrong_scale.ensures c.if-wrong_scale.false _ c.wrong_ids.ensures c.if-wrong_ids.true

pub extent_of-e-requires : goal.extent_of-e-requires
extent_of-e-requires c = (measure_celled _ _ c.check.ensures c.in_ok-check.was, measure_long _ _ _ _ c.wrong_ids.ensures c.if-wrong_ids.false)

pub returns-in_err-check : goal.returns-in_err-check
returns-in_err-check c = search (rules, measure_refused)

pub returns : goal.returns
returns c = measure_done _ _ _ _ _ _ c.check.ensures c.in_ok-check.was _ c.wrong_scale.ensures c.if-wrong_scale.false _ c.wrong_ids.ensures c.if-wrong_ids.false
    _ _ c.extent_of-e.ensures.0 c.measured.ensures
