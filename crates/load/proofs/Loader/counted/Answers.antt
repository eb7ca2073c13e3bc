-- `Loader::counted` meets its contract: three numbers are set, the others stay.
use Rattle.rules.specs.Load.{counted}
use borrow.Author.Rules.{rules}
use Rattle.load.proofs.Loader.counted.Goals as goal

pub returns : goal.returns
unfolding counted
returns c = search rules
