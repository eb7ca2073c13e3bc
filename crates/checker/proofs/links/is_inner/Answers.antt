-- `is_inner` is the conjunction of the two tests.
use borrow.Author.Tests.{lt-ltb, le-ltb}
use Rattle.rules.specs.Base.{◌and◌}
use Rattle.checker.specs.Links.{inner_at}
use borrow.Author.Rules.{rules}
use Rattle.checker.proofs.links.is_inner.Goals as goal

pub returns-then-x-gt0 : goal.returns-then-x-gt0
unfolding inner_at ◌and◌
returns-then-x-gt0 c = search (rules, lt-ltb)

pub returns-else-x-gt0 : goal.returns-else-x-gt0
unfolding inner_at ◌and◌
returns-else-x-gt0 c = search (rules, le-ltb)
