-- The rule's answer under what has been tested (Tellings); a neighbour that has an id to give is a span.
use native.Mathlib.Omega.{arith}
use borrow.Author.Rules.{rules}
use lib.ListN.{length}
use Prim.Native.Nat.{◌<◌}
use mathlib.Core.Path.{refl, ◌∙◌}
use Rattle.net.proofs.Tables.{net_few}
use Rattle.expand.proofs.Looks.{sight_small, sight_slot, sight_inside, offers_inside}
use Rattle.expand.proofs.Tellings.{gives_none, gives_sum}
use Rattle.expand.proofs.look.gives.Goals as goal

pub neighbour-a-requires : goal.neighbour-a-requires
neighbour-a-requires c = (search rules, search (rules, sight_small), search rules, search (rules, sight_slot))

pub offers-requires-clause-area_len_bound : goal.offers-requires-clause-area_len_bound
offers-requires-clause-area_len_bound c = (net_few _ _ _ c.requires.0.closed, sight_inside _ _ _ _ _ _ _ _ c.requires.0 c.requires.1 c.requires.2 c.neighbour-a.ensures)

pub bounds-ws-a : goal.bounds-ws-a
bounds-ws-a c = let inside : c.neighbour-a.result.0 < length c.args.area.now = offers_inside _ _ _ _ _ _ _ _ c.requires.0 c.requires.1 c.requires.2 c.neighbour-a.ensures _ c.offers.ensures c.requires.3 c.if-offers.true in
    omega (arith, inside, c.requires.0.low, c.requires.0.room)

pub returns-then-offers : goal.returns-then-offers
returns-then-offers c = let inside : c.neighbour-a.result.0 < length c.args.area.now = offers_inside _ _ _ _ _ _ _ _ c.requires.0 c.requires.1 c.requires.2 c.neighbour-a.ensures _ c.offers.ensures c.requires.3 c.if-offers.true in
    gives_sum _ _ _ _ _ _ _ _ _ c.requires.0 c.requires.1 c.requires.2 c.neighbour-a.ensures _ c.offers.ensures c.if-offers.true inside _ refl

pub returns-else-offers : goal.returns-else-offers
returns-else-offers c = c.if-offers.false ∙ gives_none _ _ _ _ _ _ _ _ _ c.requires.0 c.requires.1 c.requires.2 c.neighbour-a.ensures _ c.offers.ensures c.if-offers.false
