-- The walk's start: the id across the starting edge is the list, and the walker stands where the rule's does.
-- A region has a span, so there is room for one id.
use mathlib.Core.Path.{refl}
use Rattle.contour.proofs.PoolLaws.{start_con, start-at, start_in, begun}
use native.Mathlib.Omega.{arith}
use borrow.Author.Rules.{rules}
use Rattle.contour.proofs.walk.begin.Goals as goal

pub connections-cons-requires : goal.connections-cons-requires
connections-cons-requires c = search (rules, start_con)

pub across-r-requires : goal.across-r-requires
across-r-requires c = (start-at _ _ _ _ _ _ c.requires.0 _ c.connections-cons.ensures, c.requires.1)

pub overflow_add-ws : goal.overflow_add-ws
overflow_add-ws c = omega (arith, start_in _ _ _ _ _ _ c.requires.0)

pub offset_bounds-ws-pool : goal.offset_bounds-ws-pool
offset_bounds-ws-pool c = omega (arith, start_in _ _ _ _ _ _ c.requires.0)

pub bounds-ws-pool : goal.bounds-ws-pool
bounds-ws-pool c = start_in _ _ _ _ _ _ c.requires.0

pub overflow_add-result : goal.overflow_add-result
overflow_add-result c = omega (arith, start_in _ _ _ _ _ _ c.requires.0)

pub returns : goal.returns
returns c = begun _ _ _ _ _ _ c.requires.0 _ _ _ c.across-r.ensures refl refl refl refl
