-- The loop's invariant: the rule from here gives and tells what it does from the start, with enough fuel (`AllNoted`). Each round that merges leaves fewer records
-- that bear their own number: the measure.
use lib.ListN.{take}
use Rattle.table.specs.View.{recs_of}
use Rattle.pool.proofs.MergeLaws.{owners}
use Rattle.merge.proofs.ToldLaws.{AllNoted}
use Rattle.merge.proofs.told.merge_all.Given as goal

abbrev pub invariant-loop-round : goal.invariant-loop-round
invariant-loop-round l = AllNoted l.area l.m l.end l.initial.ws l.ws l.half l.count

abbrev pub decreases-loop-round : goal.decreases-loop-round
decreases-loop-round l = owners l.m (recs_of (take l.end l.ws) l.m)
