-- `Loader::refusing` meets its contract: two numbers are set, the others stay.
use Rattle.rules.specs.Load.{refusing}
use borrow.Author.Rules.{rules}
use Rattle.load.proofs.Loader.refusing.Goals as goal

pub returns : goal.returns
unfolding refusing
returns c = search rules
