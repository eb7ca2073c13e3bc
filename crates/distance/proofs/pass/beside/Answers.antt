-- `beside` is the rule's lesser sum: what is there is at most 510, so plus 2 or 3 it fits, and a corner that is not there changes nothing.
use Rattle.distance.proofs.Values.{some_at, con_in, step_stands}
use Rattle.distance.proofs.Sides.{first_in, first_low, second_in, second_low, side-one, side-two}
use borrow.Author.Rules.{rules}
use Rattle.distance.proofs.pass.beside.Goals as goal

pub follow-q-requires : goal.follow-q-requires
follow-q-requires c = (some_at _ c.requires.place.0 _ _ c.requires.place.1 _ c.requires.place.2, search rules, search rules)

pub connections-next-requires : goal.connections-next-requires
connections-next-requires c =
    con_in _ c.requires.place.0 _ _ (step_stands _ c.requires.place.0 _ _ c.requires.place.1 _ c.requires.place.2 _ c.requires.sides.0 _ _ c.follow-q.ensures.0 c.follow-q.ensures.1 c.follow-q.ensures.2)

pub lower-requires : goal.lower-requires
lower-requires c = (search (rules, first_in), search (rules, first_low), search rules)

pub returns-then-next-e : goal.returns-then-next-e
returns-then-next-e c = search (rules, side-one)

pub follow-k-requires : goal.follow-k-requires
follow-k-requires c =
    let u = step_stands _ c.requires.place.0 _ _ c.requires.place.1 _ c.requires.place.2 _ c.requires.sides.0 _ _ c.follow-q.ensures.0 c.follow-q.ensures.1 c.follow-q.ensures.2 in
    (some_at _ c.requires.place.0 _ _ u _ c.connections-next.ensures, search rules, search rules)

pub lower-b-requires : goal.lower-b-requires
lower-b-requires c = (search (rules, second_in), search (rules, second_low), search rules)

pub lower-requires-2 : goal.lower-requires-2
lower-requires-2 c = (search (rules, first_in), search (rules, first_low), search rules)

pub returns : goal.returns
returns c = search (rules, side-two)
