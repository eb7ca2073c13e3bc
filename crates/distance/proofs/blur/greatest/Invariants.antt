-- Invariant: the greatest of all is the greater of `best` and the greatest from x's index on.
use Prim.Native.Nat.{max}
use mathlib.Core.Path.{◌≡◌}
use lib.ListN.{drop}
use Rattle.rules.specs.Distance.{greatest}
use Rattle.distance.proofs.blur.greatest.Given as goal

abbrev pub invariant-loop-x : goal.invariant-loop-x
invariant-loop-x l = greatest l.raw ≡ max l.best (greatest (drop l.x-index l.raw))
