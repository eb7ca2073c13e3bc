-- The loop's invariant: the records are the rule's after i turns, and the count told is the rule's.
use Prim.Native.Nat.{◌*◌, ◌≤◌}
use mathlib.Core.Path.{◌≡◌}
use lib.ListN.{length}
use Rattle.rules.specs.Base.{upto}
use Rattle.rules.specs.Filter.{filter_one}
use Rattle.rules.specs.Reasons.{gone_with}
use Rattle.space.specs.Space.{Frame}
use Rattle.table.specs.View.{recs_of}
use Rattle.filter.specs.Group.{Calm}
use Rattle.filter.proofs.told.filter_told.Given as goal

abbrev pub invariant-loop-i : goal.invariant-loop-i
invariant-loop-i l = (l.i ≤ l.m) × (length l.ws ≡ length l.initial.ws) × Calm l.m l.ws × Frame 0 (5 * l.m) l.initial.ws l.ws × (recs_of l.ws l.m ≡ upto l.i (filter_one l.least) (recs_of l.initial.ws l.m))
    × (l.told ≡ gone_with l.least l.r l.i (recs_of l.initial.ws l.m))
