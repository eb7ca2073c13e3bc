-- `into::read` meets its contract: each number is the list's.
-- The list has 17.
use Rattle.load.specs.Into.{loader_in}
use mathlib.Core.Path.{refl}
use Rattle.load.proofs.into.read.Goals as goal

pub returns : goal.returns
unfolding loader_in
returns c = refl
