-- An id that is shown has its extent, another nothing (Outcome).
use mathlib.Core.Path.{ap}
use Rattle.rules.specs.Sizes.{Extent}
use Rattle.sizes.proofs.Outcome.{extent-shown, extent-none}
use native.Mathlib.Omega.{arith}
use Rattle.sizes.proofs.extent_of.Goals as goal

pub returns-then-is_shown : goal.returns-then-is_shown
returns-then-is_shown c = (extent-shown _ _ _ _ _ c.is_shown.ensures c.if-is_shown.true _ c.walk_cells.ensures.0, c.walk_cells.ensures.1)

pub returns : goal.returns
returns c = (extent-none _ _ _ _ _ c.is_shown.ensures c.if-is_shown.false _ c.no_extent.ensures, omega (arith, ap (λ (e : Extent). e.count) c.no_extent.ensures))
