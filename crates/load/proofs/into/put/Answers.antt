-- `into::put` meets its contract: without a refusal there is no position.
use mathlib.Core.Path.{refl}
use Rattle.load.proofs.Stored.{none_said, some_said}
use Rattle.load.proofs.into.put.Goals as goal

pub returns-then-l-eq0-clause-refusal_value : goal.returns-then-l-eq0-clause-refusal_value
returns-then-l-eq0-clause-refusal_value c = (refl, none_said _ c.if-l-eq0.true)

pub returns-else-l-eq0-clause-refusal_value : goal.returns-else-l-eq0-clause-refusal_value
returns-else-l-eq0-clause-refusal_value c = (refl, some_said _ c.if-l-eq0.false)
