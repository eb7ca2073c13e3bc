-- Invariant: the layers below j pass, each of which is the span i + j of cell c.
use Prim.Native.Nat.{◌≤◌, ◌-◌, ◌+◌}
use mathlib.Core.Path.{◌≡◌}
use mathlib.Core.Bool.{true}
use Rattle.rules.specs.Base.{every}
use Rattle.field.specs.Seen.{seen}
use Rattle.checker.specs.Links.{half_at}
use Rattle.checker.proofs.links.cell_ok.Given as goal

abbrev pub invariant-loop-j : goal.invariant-loop-j
invariant-loop-j l = (l.j ≤ l.k) × (every l.j (λ t. half_at (seen l.field) (l.i + t)) ≡ true)

abbrev pub decreases-loop-j : goal.decreases-loop-j
decreases-loop-j l = l.k - l.j
