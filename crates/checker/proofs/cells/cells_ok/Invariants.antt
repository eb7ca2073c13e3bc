-- Invariant: the test of all cells equals the test of those from i on, with the sum so far. A turn opens the rule by one cell.
-- The sum is at most 255 for each cell passed, so it fits.
use Prim.Native.Nat.{◌≤◌, ◌*◌, ◌-◌}
use mathlib.Core.Path.{◌≡◌}
use lib.ListN.{length, drop}
use Rattle.rules.specs.Refusals.{good_cells}
use Rattle.checker.proofs.cells.cells_ok.Given as goal

abbrev pub invariant-loop-i : goal.invariant-loop-i
invariant-loop-i l = (l.i ≤ length l.count) × (l.sum ≤ 255 * l.i) × (good_cells l.index l.count 0 l.n ≡ good_cells (drop l.i l.index) (drop l.i l.count) l.sum l.n)

abbrev pub decreases-loop-i : goal.decreases-loop-i
decreases-loop-i l = length l.count - l.i
