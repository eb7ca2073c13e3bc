-- `filter::gather::gather` meets its contract. The loop's invariant is `Turn`: the rule from here gives what it gives from the start, with enough fuel.
-- Each turn takes one that waits; those that wait and those not visited together fall.
use Rattle.table.specs.View.{recs_of}
use Prim.Native.Nat.{◌*◌}
use mathlib.Core.Path.{◌≡◌}
use lib.ListN.{length}
use Rattle.laws.proofs.FilterEnds.{ahead}
use Rattle.space.specs.Space.{Frame, stack_at}
use Rattle.filter.specs.Group.{Waiting, Found}
use Rattle.filter.proofs.GroupLaws.{Turn}
use Rattle.filter.proofs.gather.gather.Given as goal

abbrev pub invariant-loop-top : goal.invariant-loop-top
invariant-loop-top l = (length l.ws ≡ length l.initial.ws) × Waiting l.m l.top l.ws × Found l.m l.f l.ws × Turn l.m l.initial.ws l.ws l.top l.f × Frame (4 * l.m) (7 * l.m) l.initial.ws l.ws

abbrev pub decreases-loop-top : goal.decreases-loop-top
decreases-loop-top l = ahead (stack_at l.ws (5 * l.m) l.top) (recs_of l.ws l.m)
