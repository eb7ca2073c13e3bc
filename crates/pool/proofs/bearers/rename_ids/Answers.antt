-- The answers that the check does not find alone.
use Rattle.pool.proofs.BearerLaws.{hand_start, hand_inside, hand_next, hand_falls, hand_done}
use borrow.Author.Rules.{rules}
use Rattle.pool.proofs.bearers.rename_ids.Goals as goal

pub loop-m-init : goal.loop-m-init
loop-m-init c = (search rules, search rules, search hand_start)

pub returns-then-next-eq0 : goal.returns-then-next-eq0
returns-then-next-eq0 c = search hand_done

pub loop-m-smaller : goal.loop-m-smaller
loop-m-smaller c = search hand_falls

pub loop-m-preserved : goal.loop-m-preserved
loop-m-preserved c = (search rules, search hand_inside, search hand_next)
