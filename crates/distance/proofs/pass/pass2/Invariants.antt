-- Invariant: the pass as a whole equals the s spans that are to go, done to the list as it is. A turn does the last of them, or passes over those that stay.
-- It only lowers, so every value stays at most 510.
use Prim.Native.Nat.{◌≤◌}
use mathlib.Core.Path.{◌≡◌}
use lib.ListN.{length}
use Rattle.rules.specs.Distance.{lower}
use Rattle.rules.specs.Rows.{downto}
use Rattle.field.specs.Seen.{seen}
use Rattle.distance.specs.Value.{Low}
use Rattle.distance.proofs.pass.pass2.Given as goal

abbrev pub invariant-loop-s : goal.invariant-loop-s
invariant-loop-s l = (l.s ≤ length l.field.area.now) × (downto (length l.field.area.now) (lower (seen l.field) 2 1 1 0) l.initial.raw ≡ downto l.s (lower (seen l.field) 2 1 1 0) l.raw) × Low (seen l.field) l.raw

abbrev pub decreases-loop-s : goal.decreases-loop-s
decreases-loop-s l = l.s
