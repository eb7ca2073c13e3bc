-- Invariant: the k columns as a whole equal the j that are to go, done to the list as it is. A turn does the last of them.
use Prim.Native.Nat.{◌+◌, ◌*◌}
use mathlib.Core.Path.{◌≡◌}
use Rattle.rules.specs.Distance.{lower}
use Rattle.field.specs.Seen.{seen}
use Rattle.distance.specs.Value.{Low}
use Rattle.distance.specs.Walk.{columns_down}
use Rattle.distance.proofs.pass.pass2_columns.Given as goal

abbrev pub invariant-loop-j : goal.invariant-loop-j
invariant-loop-j l = (l.first ≡ l.field.w * l.y + l.x) × (columns_down (seen l.field) (lower (seen l.field) 2 1 1 0) l.y l.x l.k l.initial.raw ≡ columns_down (seen l.field) (lower (seen l.field) 2 1 1 0) l.y l.x l.j l.raw) × Low (seen l.field) l.raw
