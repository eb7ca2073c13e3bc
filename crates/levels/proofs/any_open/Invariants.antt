-- The loop's invariant: what was found is whether one of the spans below i is open.
-- Each turn asks one more, and what was found stays found.
use Prim.Native.Nat.{◌≤◌, ◌-◌}
use mathlib.Core.Path.{◌≡◌}
use lib.ListN.{length}
use Rattle.levels.specs.Levels.{any_open}
use Rattle.levels.proofs.any_open.Given as goal

abbrev pub invariant-loop-i : goal.invariant-loop-i
invariant-loop-i l = (l.i ≤ length l.dist) × (l.found ≡ any_open l.dist l.ids l.from l.i)

abbrev pub decreases-loop-i : goal.decreases-loop-i
decreases-loop-i l = length l.dist - l.i
