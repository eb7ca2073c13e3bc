-- The loop's invariant: what is left to run, and to tell, gives what the whole gives (`Telling`). The measure is 5 for each span that does not count yet
-- and 1 for each on the stack.
use Prim.Native.Nat.{◌+◌, ◌-◌, ◌*◌}
use lib.ListN.{length}
use Rattle.flood.specs.Looks.{seed_of}
use Rattle.flood.specs.Stories.{story_of}
use Rattle.flood.proofs.Stories.{Telling}
use Rattle.flood.proofs.flow.flood_region.Given as goal

abbrev pub invariant-loop-height : goal.invariant-loop-height
invariant-loop-height l = Telling l.area l.con l.dist l.at (seed_of l.seed) l.initial.ids l.initial.ws (story_of l.initial.told) l.ids l.ws l.height (story_of l.told)

abbrev pub decreases-loop-height : goal.decreases-loop-height
decreases-loop-height l = 5 * (length l.area - l.height.count) + l.height.top
