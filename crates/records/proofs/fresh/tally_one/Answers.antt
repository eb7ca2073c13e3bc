-- `tally_one` is the rule of one count: an id below m adds one in its column, any other leaves the list.
-- The caller shows that the count fits.
use Rattle.records.proofs.FreshLaws.{tally_past, tally_below}
use native.Mathlib.Omega.{arith}
use Rattle.records.proofs.fresh.tally_one.Goals as goal

pub overflow_add-ws-then-r-m : goal.overflow_add-ws-then-r-m
overflow_add-ws-then-r-m c = omega (arith, c.requires.2 c.if-r-m.true)

pub returns-then-r-m : goal.returns-then-r-m
returns-then-r-m c = tally_below _ _ _ c.if-r-m.true

pub returns-else-r-m : goal.returns-else-r-m
returns-else-r-m c = tally_past _ _ _ c.if-r-m.false
