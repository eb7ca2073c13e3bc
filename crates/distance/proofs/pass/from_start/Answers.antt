-- `from_start` is the same: a span that lacks a neighbour starts at 0, which is the least at once.
use Rattle.distance.proofs.Values.{con_in, span_layers, ringed-at}
use Rattle.distance.proofs.Sides.{from_edge}
use borrow.Author.Rules.{rules}
use Rattle.distance.proofs.pass.from_start.Goals as goal

pub connections-cons-requires : goal.connections-cons-requires
connections-cons-requires c = con_in _ c.requires.0 _ _ c.requires.1

pub surrounded-requires : goal.surrounded-requires
surrounded-requires c = span_layers _ _ _ _ _ _ _ _ c.requires.0 c.requires.1.span c.connections-cons.ensures

pub returns-then-not-surrounded : goal.returns-then-not-surrounded
returns-then-not-surrounded c = from_edge _ _ _ _ c.requires.0 c.requires.1 _ c.connections-cons.ensures _ c.surrounded.ensures c.if-not-surrounded.true c.codes_are_bytes.ensures

pub from_inside-requires : goal.from_inside-requires
from_inside-requires c = record {
  place = search rules;
  span_value = ringed-at _ _ _ c.connections-cons.ensures _ c.surrounded.ensures c.if-not-surrounded.false;
}
