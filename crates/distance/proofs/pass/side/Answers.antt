-- `side` is the same: a neighbour that is not there changes nothing.
use Rattle.distance.proofs.Sides.{side-none}
use borrow.Author.Rules.{rules}
use Rattle.distance.proofs.pass.side.Goals as goal

pub returns-then-cons-d : goal.returns-then-cons-d
returns-then-cons-d c = search (rules, side-none)
