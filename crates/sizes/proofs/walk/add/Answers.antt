-- The first span, or one more (WalkLaws).
use Rattle.sizes.proofs.WalkLaws.{add_first, add_more}
use borrow.Author.Rules.{rules}
use Rattle.sizes.proofs.walk.add.Goals as goal

pub returns-then-e-eq0 : goal.returns-then-e-eq0
returns-then-e-eq0 c = search (rules, add_first)

pub returns : goal.returns
returns c = add_more _ _ _ _ c.if-e-eq0.false _ _ _ _ c.min.ensures c.max.ensures c.min-2.ensures c.max-2.ensures
