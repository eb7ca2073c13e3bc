-- `same` is the rule's count, as a test: a neighbour that is there has an area to compare.
use native.Mathlib.Omega.{arith}
use mathlib.Core.Path.{refl}
use Rattle.distance.proofs.Values.{some_at, step_stands, same_is}
use borrow.Author.Rules.{rules}
use Rattle.distance.proofs.start.same.Goals as goal

pub follow-q-requires : goal.follow-q-requires
follow-q-requires c = (some_at _ c.requires.0 _ _ c.requires.1 _ c.requires.2, search rules, search rules)

pub bounds-field-q : goal.bounds-field-q
bounds-field-q c = let u = step_stands _ c.requires.0 _ _ c.requires.1 _ c.requires.2 _ c.requires.3 _ _ c.follow-q.ensures.0 c.follow-q.ensures.1 c.follow-q.ensures.2 in omega (arith, u.span)

pub bounds-field-p : goal.bounds-field-p
bounds-field-p c = omega (arith, c.requires.1.span)

pub returns : goal.returns
returns c = same_is _ c.requires.0 _ _ c.requires.1 _ c.requires.2 _ _ _ c.requires.3 c.follow-q.ensures.0 c.follow-q.ensures.1 c.follow-q.ensures.2 _ refl
