-- Invariant: pass 2 has gone through the layers below j. It only lowers, so every value stays at most 510.
use Prim.Native.Nat.{◌≤◌, ◌-◌, ◌+◌}
use mathlib.Core.Path.{◌≡◌}
use Rattle.rules.specs.Base.{upto}
use Rattle.rules.specs.Distance.{lower}
use Rattle.field.specs.Seen.{seen}
use Rattle.distance.specs.Value.{Low}
use Rattle.distance.proofs.pass.pass2_cell.Given as goal

abbrev pub invariant-loop-j : goal.invariant-loop-j
invariant-loop-j l = (l.j ≤ l.k) × (l.raw ≡ upto l.j (λ t. lower (seen l.field) 2 1 1 0 (l.i + t)) l.initial.raw) × Low (seen l.field) l.raw

abbrev pub decreases-loop-j : goal.decreases-loop-j
decreases-loop-j l = l.k - l.j
