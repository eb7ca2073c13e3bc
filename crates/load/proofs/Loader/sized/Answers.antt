-- `Loader::sized` meets its contract: each of the five numbers is the rule's.
use Rattle.rules.specs.Load.{sized}
use mathlib.Core.Path.{refl}
use Rattle.load.proofs.Loader.sized.Goals as goal

pub returns : goal.returns
unfolding sized
returns c = rw (← c.number_with.ensures, ← c.number_with-2.ensures, ← c.number_with-3.ensures, ← c.number_with-4.ensures, ← c.number_with-5.ensures) refl
