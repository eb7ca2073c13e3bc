-- `connections` reads four elements in order, which is `cons_at` opened.
use Rattle.field.specs.Lent.{cons_at}
use borrow.Author.Rules.{rules}
use Rattle.field.proofs.place.connections.Goals as goal

pub returns : goal.returns
unfolding cons_at
returns c = search rules
