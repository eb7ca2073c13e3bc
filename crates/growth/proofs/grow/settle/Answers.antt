-- `growth::grow::settle` meets its contract: a growth that was stopped leaves zeros, another is handed on.
use mathlib.Core.Path.{refl}
use Rattle.growth.proofs.Stopped.{some_stop}
use Rattle.growth.proofs.GrowLaws.{settled_stop, settled_go}
use Rattle.growth.proofs.grow.settle.Goals as goal

pub returns-in-Err : goal.returns-in-Err
returns-in-Err c = λ s. rw c.in-Err.is (settled_stop s _ _ _ _ _ _ _ _ (some_stop _) c.clear.ensures c.clear_part-in-Err.ensures.0 c.clear_part-in-Err.ensures.1 refl)

pub returns-in-Ok : goal.returns-in-Ok
returns-in-Ok c = λ s. rw c.in-Ok.is (settled_go s _ _ _ _ _ _ refl c.clear_part.ensures.0 c.clear_part.ensures.1)
