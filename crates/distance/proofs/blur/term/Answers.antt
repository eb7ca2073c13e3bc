-- `term` is the rule's two terms: a neighbour or a corner that is missing is past the list, where the rule reads v.
use native.Mathlib.Omega.{arith}
use mathlib.Core.Path.{refl}
use Rattle.field.proofs.Places.{turned}
use Rattle.distance.proofs.Values.{some_at, con_in, step_stands}
use Rattle.distance.proofs.Blurs.{term-none, term_in, corner_in, term-one, term-two}
use borrow.Author.Rules.{rules}
use Rattle.distance.proofs.blur.term.Goals as goal

pub returns-then-cons-d : goal.returns-then-cons-d
returns-then-cons-d c = (search (rules, term-none), search rules)

pub follow-q-requires : goal.follow-q-requires
follow-q-requires c = (some_at _ c.requires.place.0 _ _ c.requires.place.1 _ c.requires.place.2, search rules, search rules)

pub offset_bounds-raw-t : goal.offset_bounds-raw-t
offset_bounds-raw-t c =
    let u = step_stands _ c.requires.place.0 _ _ c.requires.place.1 _ c.requires.place.2 _ c.requires.size.0 _ _ c.follow-q.ensures.0 c.follow-q.ensures.1 c.follow-q.ensures.2 in
    omega (arith, u.span, c.requires.place.0.celled.few)

pub bounds-raw-t : goal.bounds-raw-t
bounds-raw-t c = search (rules, term_in)

pub connections-next-requires : goal.connections-next-requires
connections-next-requires c =
    con_in _ c.requires.place.0 _ _ (step_stands _ c.requires.place.0 _ _ c.requires.place.1 _ c.requires.place.2 _ c.requires.size.0 _ _ c.follow-q.ensures.0 c.follow-q.ensures.1 c.follow-q.ensures.2)

pub bounds-next-e : goal.bounds-next-e
bounds-next-e c = search (rules, turned)

pub returns-then-next-e : goal.returns-then-next-e
returns-then-next-e c = (search (rules, term-one), search rules)

pub follow-k-requires : goal.follow-k-requires
follow-k-requires c =
    let u = step_stands _ c.requires.place.0 _ _ c.requires.place.1 _ c.requires.place.2 _ c.requires.size.0 _ _ c.follow-q.ensures.0 c.follow-q.ensures.1 c.follow-q.ensures.2 in
    (some_at _ c.requires.place.0 _ _ u _ c.connections-next.ensures, search (rules, turned), search rules)

pub offset_bounds-raw-k : goal.offset_bounds-raw-k
offset_bounds-raw-k c =
    let i = corner_in _ c.requires.place.0 _ _ _ _ c.args.v c.requires.place.1 c.requires.place.3 _ c.requires.place.2 c.requires.size.0 _ _ c.follow-q.ensures.0 c.follow-q.ensures.1 c.follow-q.ensures.2 _ c.connections-next.ensures _ refl _ _ c.follow-k.ensures.0 c.follow-k.ensures.1 c.follow-k.ensures.2 in
    omega (arith, i, c.requires.place.3, c.requires.place.0.celled.few)

pub bounds-raw-k : goal.bounds-raw-k
bounds-raw-k c =
    corner_in _ c.requires.place.0 _ _ _ _ c.args.v c.requires.place.1 c.requires.place.3 _ c.requires.place.2 c.requires.size.0 _ _ c.follow-q.ensures.0 c.follow-q.ensures.1 c.follow-q.ensures.2 _ c.connections-next.ensures _ refl _ _ c.follow-k.ensures.0 c.follow-k.ensures.1 c.follow-k.ensures.2

pub returns : goal.returns
returns c = (
  term-two _ c.requires.place.0 _ _ _ _ c.args.v c.requires.place.1 c.requires.place.3 _ c.requires.place.2 c.requires.size.0 _ _ c.follow-q.ensures.0 c.follow-q.ensures.1 c.follow-q.ensures.2 _ c.connections-next.ensures _ refl _ _ c.follow-k.ensures.0 c.follow-k.ensures.1 c.follow-k.ensures.2 _ refl,
  search rules,
)
