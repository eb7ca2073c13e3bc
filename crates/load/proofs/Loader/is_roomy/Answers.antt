-- `Loader::is_roomy` meets its contract: its four tests are the rule's, one after the other.
use Rattle.std.proofs.Common.{arith}
use Rattle.std.proofs.lemmas.Bool.Decides.{nat_tests}
use borrow.Author.Tests.{le-leb, lt-leb}
use Rattle.rules.specs.Base.{◌and◌}
use Rattle.rules.specs.Load.{roomy}
use Rattle.load.proofs.Loader.is_roomy.Goals as goal
use Rattle.load.proofs.Loader.is_roomy.Goals.{then-cells-index, else-cells-index, then-cells-count, else-cells-count}

pub returns-then-spans-area : goal.returns-then-spans-area
unfolding roomy ◌and◌
returns-then-spans-area c = let f = c.if-spans-area.true in rw (le-leb _ _ f.0, le-leb _ _ f.1, le-leb _ _ f.2)

pub returns-else-spans-area : goal.returns-else-spans-area
unfolding roomy ◌and◌
returns-else-spans-area c = grind (arith, nat_tests, le-leb, lt-leb)
