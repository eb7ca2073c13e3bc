-- Invariant: the cells before this one do not have span s; what is left of its number tells its cell and layer among those that are left.
use Prim.Native.Nat.{◌+◌}
use mathlib.Core.Path.{◌≡◌}
use lib.ListN.{drop}
use Rattle.rules.specs.Field.{cell_of}
use Rattle.mending.specs.Patch.{layer_of}
use Rattle.mending.proofs.patch.spot_of.Given as goal

abbrev pub invariant-loop-cell : goal.invariant-loop-cell
invariant-loop-cell l = (cell_of l.count l.s ≡ l.cell + cell_of (drop l.cell l.count) l.left) × (layer_of l.count l.s ≡ layer_of (drop l.cell l.count) l.left)
