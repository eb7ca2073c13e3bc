-- Each way out is the rule's look under what has been tested by then (Looks).
use native.Mathlib.Omega.{arith}
use borrow.Author.Rules.{rules}
use lib.ListN.{length}
use Prim.Native.Nat.{◌<◌}
use mathlib.Core.Path.{refl}
use Rattle.net.proofs.Tables.{net_few}
use Rattle.expand.proofs.Looks.{sight_small, sight_slot, sight_inside, offers_inside, look_none, look_stray, look-far, look-take}
use Rattle.expand.proofs.look.look.Goals as goal

pub neighbour-a-requires : goal.neighbour-a-requires
neighbour-a-requires c = (search rules, search (rules, sight_small), search rules, search (rules, sight_slot))

pub offers-requires-clause-area_len_bound : goal.offers-requires-clause-area_len_bound
offers-requires-clause-area_len_bound c = (net_few _ _ _ c.requires.sight.0.closed, sight_inside _ _ _ _ _ _ _ _ c.requires.sight.0 c.requires.sight.1 c.requires.sight.2 c.neighbour-a.ensures)

pub returns-then-not-offers : goal.returns-then-not-offers
returns-then-not-offers c = look_none _ _ _ _ _ _ _ _ c.requires.sight.0 c.requires.sight.1 c.requires.sight.2 c.neighbour-a.ensures _ c.offers.ensures _ _ c.if-not-offers.true

pub bounds-ws-a : goal.bounds-ws-a
bounds-ws-a c = let inside : c.neighbour-a.result.0 < length c.args.area.now = offers_inside _ _ _ _ _ _ _ _ c.requires.sight.0 c.requires.sight.1 c.requires.sight.2 c.neighbour-a.ensures _ c.offers.ensures c.requires.sight.3 c.if-not-offers.false in
    omega (arith, inside, c.requires.sight.0.low, c.requires.sight.0.room)

pub returns-then-f-gt-MOST_SOURCE : goal.returns-then-f-gt-MOST_SOURCE
returns-then-f-gt-MOST_SOURCE c = let inside : c.neighbour-a.result.0 < length c.args.area.now = offers_inside _ _ _ _ _ _ _ _ c.requires.sight.0 c.requires.sight.1 c.requires.sight.2 c.neighbour-a.ensures _ c.offers.ensures c.requires.sight.3 c.if-not-offers.false in
    look_stray _ _ _ _ _ _ _ _ c.requires.sight.0 c.requires.sight.1 c.requires.sight.2 c.neighbour-a.ensures _ c.offers.ensures _ _ c.if-not-offers.false inside _ refl c.requires.far_bound c.if-f-gt-MOST_SOURCE.true

pub bounds-ids-a : goal.bounds-ids-a
bounds-ids-a c = let inside : c.neighbour-a.result.0 < length c.args.area.now = offers_inside _ _ _ _ _ _ _ _ c.requires.sight.0 c.requires.sight.1 c.requires.sight.2 c.neighbour-a.ensures _ c.offers.ensures c.requires.sight.3 c.if-not-offers.false in
    omega (arith, inside, c.requires.sight.0.idents)

pub returns-then-far-t : goal.returns-then-far-t
returns-then-far-t c = let inside : c.neighbour-a.result.0 < length c.args.area.now = offers_inside _ _ _ _ _ _ _ _ c.requires.sight.0 c.requires.sight.1 c.requires.sight.2 c.neighbour-a.ensures _ c.offers.ensures c.requires.sight.3 c.if-not-offers.false in
    look-take _ _ _ _ _ _ _ _ c.requires.sight.0 c.requires.sight.1 c.requires.sight.2 c.neighbour-a.ensures _ c.offers.ensures _ _ c.if-not-offers.false inside _ refl _ refl c.if-f-gt-MOST_SOURCE.false _ refl c.if-far-t.true

pub returns : goal.returns
returns c = let inside : c.neighbour-a.result.0 < length c.args.area.now = offers_inside _ _ _ _ _ _ _ _ c.requires.sight.0 c.requires.sight.1 c.requires.sight.2 c.neighbour-a.ensures _ c.offers.ensures c.requires.sight.3 c.if-not-offers.false in
    look-far _ _ _ _ _ _ _ _ c.requires.sight.0 c.requires.sight.1 c.requires.sight.2 c.neighbour-a.ensures _ c.offers.ensures _ _ c.if-not-offers.false inside _ refl _ refl c.if-f-gt-MOST_SOURCE.false c.if-far-t.false
