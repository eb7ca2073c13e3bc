-- `is_solid_edge` is the rule's `solid`: the id across is the rule's, and the span's own is read.
-- The span stands in the field, so it has an id.
use Rattle.contour.proofs.EdgeLaws.{solid_read}
use borrow.Author.Rules.{rules}
use Rattle.contour.proofs.edge.is_solid_edge.Goals as goal

pub returns : goal.returns
returns c = search (rules, solid_read)
