-- The loop's invariant: one was found so far or is in the rest, as it is in the whole. The measure is the rest.
use Prim.Native.Nat.{◌≤◌, ◌-◌}
use mathlib.Core.Path.{◌≡◌}
use lib.ListN.{length, drop}
use Rattle.rules.specs.Base.{◌or◌, any}
use Rattle.rules.specs.Sizes.{too_great}
use Rattle.sizes.proofs.any_too_great.Given as goal

abbrev pub invariant-loop-i : goal.invariant-loop-i
invariant-loop-i l = (l.i ≤ length l.ids) × ((l.found or any (too_great l.max_region) (drop l.i l.ids)) ≡ any (too_great l.max_region) l.ids)

abbrev pub decreases-loop-i : goal.decreases-loop-i
decreases-loop-i l = length l.ids - l.i
