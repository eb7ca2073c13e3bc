-- The invariant `Going`: after k strides the walker has not been back, and the rest of the rule's walk from here is the whole walk.
-- It starts with the rule's first walker, and each stride is the rule's.
use Rattle.contour.proofs.WalkLaws.{Going}
use Rattle.contour.proofs.walk.walk.Given as goal

abbrev pub invariant-loop-k : goal.invariant-loop-k
invariant-loop-k l = Going l.pool l.ids l.initial.ws l.span.0 l.d l.start l.ws l.v l.k
