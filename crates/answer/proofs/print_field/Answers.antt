-- `answer::print_field` meets its contract: what the entries' own lists hold before makes no difference.
use Rattle.answer.proofs.Printed.{ran_refused, ran_done}
use Rattle.answer.proofs.print_field.Goals as goal

pub returns-in-Err : goal.returns-in-Err
returns-in-Err c = ran_refused _ _ _ _ _ _ c.requires.own.raws c.requires.own.blurs c.requires.own.work c.requires.fitting.idents c.build_distance_field.result _ _
    c.build_distance_field.ensures.fact _ c.in-Err.is _ c.number.ensures _ _ _ c.write_refused.ensures

pub returns-in-Ok : goal.returns-in-Ok
returns-in-Ok c = ran_done _ _ _ _ _ _ c.requires.own.raws c.requires.own.blurs c.requires.own.work c.requires.fitting.idents c.build_distance_field.result _ _ c.build_distance_field.ensures.fact _
    c.in-Ok.is _ _ _ c.print_regions.ensures
