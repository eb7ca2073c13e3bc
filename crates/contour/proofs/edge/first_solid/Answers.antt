-- The answers that the check does not find alone.
use Rattle.contour.proofs.EdgeLaws.{first_from_lem, first_end, first_found, first_more}
use borrow.Author.Rules.{rules}
use Rattle.contour.proofs.edge.first_solid.Goals as goal

pub loop-d-init : goal.loop-d-init
loop-d-init c = (search rules, first_from_lem _ _ _)

pub loop-d-preserved : goal.loop-d-preserved
loop-d-preserved c = (search rules, search (rules, first_more))

pub returns-then-is_solid_edge : goal.returns-then-is_solid_edge
returns-then-is_solid_edge c = search (rules, first_found)

pub returns-then-d-eq4 : goal.returns-then-d-eq4
returns-then-d-eq4 c = search (rules, first_end)
