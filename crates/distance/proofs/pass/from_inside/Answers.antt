-- `from_inside` is the least from where the span starts: 0 is the least at once, and 65,535 is above what the two sides hold.
use Rattle.distance.proofs.Values.{con_in, ringed_cons, ringed-each}
use Rattle.distance.proofs.Sides.{from_zero, from_sides}
use borrow.Author.Rules.{rules}
use Rattle.distance.proofs.pass.from_inside.Goals as goal

pub connections-cons-requires : goal.connections-cons-requires
connections-cons-requires c = con_in _ c.requires.place.0 _ _ c.requires.place.1

pub start_span-requires : goal.start_span-requires
start_span-requires c = (search rules, search rules, search rules, search (rules, ringed_cons))

pub returns-then-start_span-eq0 : goal.returns-then-start_span-eq0
returns-then-start_span-eq0 c = search (rules, from_zero)

pub beside-best-requires : goal.beside-best-requires
beside-best-requires c = record {
  place = search rules;
  sides = (search rules, search rules, search (rules, ringed-each));
}

pub beside-requires : goal.beside-requires
beside-requires c = record {
  place = search rules;
  sides = (search rules, search rules, search (rules, ringed-each));
}

pub returns : goal.returns
returns c = from_sides _ _ _ _ _ _ c.start_span.ensures c.if-start_span-eq0.false c.beside-best.ensures c.beside.ensures
