-- `Loader::onward` meets its contract: four numbers are set, the others stay.
use Rattle.load.proofs.Ways.{saturates}
use Rattle.rules.specs.Load.{onward}
use native.Mathlib.Omega.{arith}
use mathlib.Core.Path.{refl}
use Rattle.load.proofs.Loader.onward.Goals as goal

pub returns : goal.returns
unfolding onward
returns c = rw (saturates _ _ (omega arith) c.saturating_add.ensures) refl
