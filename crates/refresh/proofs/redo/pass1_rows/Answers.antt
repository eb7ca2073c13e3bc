-- The answers that the check does not find alone.
use Rattle.field.proofs.Passed.{sound_reached}
use Rattle.distance.proofs.Bounds.{low_before}
use Rattle.refresh.proofs.Turns.{pass1_go, pass1-first, pass1-last, pass1_low}
use borrow.Author.Rules.{rules}
use Rattle.refresh.proofs.redo.pass1_rows.Goals as goal

pub loop-y-init : goal.loop-y-init
loop-y-init c = (search rules, search rules, search (rules, pass1-first), search rules)

pub pass1_row-requires : goal.pass1_row-requires
pass1_row-requires c = (search (rules, sound_reached), search rules, search (rules, low_before))

pub loop-y-preserved : goal.loop-y-preserved
loop-y-preserved c = (search rules, search rules, search (rules, pass1_go), search (rules, pass1_low))

pub returns : goal.returns
returns c = (search (rules, pass1-last), search rules)
