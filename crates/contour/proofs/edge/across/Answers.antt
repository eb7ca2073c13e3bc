-- The neighbour read is the rule's `near`, so the id there is the rule's `across`; where there is none the id is 0.
-- A neighbour that is there is a span, so it has an id.
use Rattle.net.proofs.Tables.{slot_in, leads_inside, net_few}
use Rattle.contour.proofs.EdgeLaws.{across-none, across_some}
use native.Mathlib.Omega.{arith}
use borrow.Author.Rules.{rules}
use Rattle.contour.proofs.edge.across.Goals as goal

pub returns-then-cons-d : goal.returns-then-cons-d
returns-then-cons-d c = search (rules, across-none)

pub neighbour-t-requires : goal.neighbour-t-requires
neighbour-t-requires c = (c.requires.0.place, omega (arith, c.requires.0.span, net_few _ _ _ c.requires.0.closed), c.requires.1, slot_in _ _ _ _ _ _ 0 c.requires.0 c.requires.1)

pub offset_bounds-ids-t : goal.offset_bounds-ids-t
offset_bounds-ids-t c = omega (arith, (leads_inside _ _ _ _ _ _ _ c.requires.0 c.requires.1 c.neighbour-t.ensures c.if-cons-d.false))

pub bounds-ids-t : goal.bounds-ids-t
bounds-ids-t c = search (rules, leads_inside)

pub returns : goal.returns
returns c = search (rules, across_some)
