-- The others' ids join record r's floors in its own room, and then the list's end is stored, if it is a new one.
-- The room is 62 numbers for each span counted, and this span, counted already, has at most 62 others.
use Prim.Native.Nat.{◌*◌}
use Rattle.table.specs.View.{start_of, end_of}
use mathlib.Core.Path.{◌≡◌, refl}
use Rattle.records.proofs.RowLaws.{floor_parts}
use Rattle.records.proofs.FloorLaws.{room_order, room_inside, room_roomy, room_prior, put_room, end_fits, step_floors, step_stays}
use native.Mathlib.Omega.{arith}
use Rattle.records.proofs.grow.add_floors.Goals as goal

pub start_of-start-requires : goal.start_of-start-requires
start_of-start-requires c = (floor_parts _ _ _ _ _ c.requires.keeping.0, c.requires.keeping.1)

pub end_of-end-requires : goal.end_of-end-requires
end_of-end-requires c = (floor_parts _ _ _ _ _ c.requires.keeping.0, c.requires.keeping.1)

pub overflow_sub-len : goal.overflow_sub-len
overflow_sub-len c = let ea : c.start_of-start.result ≡ start_of c.args.ws.now c.args.m (11 * c.args.m) c.args.r = c.start_of-start.ensures.0 in
    let ee : c.end_of-end.result ≡ end_of c.args.ws.now c.args.m (11 * c.args.m) c.args.r = c.end_of-end.ensures.0 in
    room_order _ _ _ _ _ c.requires.keeping.0 _ c.requires.keeping.1 _ _ _ ea ee refl

pub slice_bounds-join-end : goal.slice_bounds-join-end
slice_bounds-join-end c = let ea : c.start_of-start.result ≡ start_of c.args.ws.now c.args.m (11 * c.args.m) c.args.r = c.start_of-start.ensures.0 in
    let ee : c.end_of-end.result ≡ end_of c.args.ws.now c.args.m (11 * c.args.m) c.args.r = c.end_of-end.ensures.0 in
    omega (arith, room_inside _ _ _ _ _ c.requires.keeping.0 _ c.requires.keeping.1 _ _ _ ea ee refl, c.requires.keeping.0.room)

pub join-taken-requires : goal.join-taken-requires
join-taken-requires c = let ea : c.start_of-start.result ≡ start_of c.args.ws.now c.args.m (11 * c.args.m) c.args.r = c.start_of-start.ensures.0 in
    let ee : c.end_of-end.result ≡ end_of c.args.ws.now c.args.m (11 * c.args.m) c.args.r = c.end_of-end.ensures.0 in
    record {
      roomy = room_roomy _ _ _ _ _ c.requires.keeping.0 _ c.requires.keeping.1 _ _ _ ea ee refl _ _ _ (omega (arith, c.requires.keeping.2.slack, ea, ee)) c.requires.keeping.3.few c.requires.keeping.3.inside c.requires.keeping.3.lower c.requires.keeping.3.upper;
      lies = c.requires.lies;
      prior = ((λ n. room_prior _ _ _ _ _ c.requires.keeping.0 _ c.requires.keeping.1 _ _ _ ea ee refl _ _ _ (c.requires.prior.0 n)), c.requires.prior.1);
    }

pub returns-then-taken-len : goal.returns-then-taken-len
returns-then-taken-len c = let ea : c.start_of-start.result ≡ start_of c.args.ws.now c.args.m (11 * c.args.m) c.args.r = c.start_of-start.ensures.0 in
    let ee : c.end_of-end.result ≡ end_of c.args.ws.now c.args.m (11 * c.args.m) c.args.r = c.end_of-end.ensures.0 in
    record {
      fact = step_stays _ _ _ _ _ c.requires.keeping.0 _ c.requires.keeping.1 _ _ _ ea ee refl _ _ _ _ c.join-taken.auto.part c.join-taken.ensures.fact refl c.if-taken-len.true;
      result_value = c.join-taken.ensures.twin_value;
    }

pub set_part-requires : goal.set_part-requires
set_part-requires c = let ea : c.start_of-start.result ≡ start_of c.args.ws.now c.args.m (11 * c.args.m) c.args.r = c.start_of-start.ensures.0 in
    let ee : c.end_of-end.result ≡ end_of c.args.ws.now c.args.m (11 * c.args.m) c.args.r = c.end_of-end.ensures.0 in
    let f = end_fits _ _ _ _ _ c.requires.keeping.0 _ c.requires.keeping.1 _ _ _ ea ee refl _ _ _ c.join-taken.auto.part c.join-taken.ensures.fact in
    record {
      m_in_bounds = put_room _ _ _ _ _ c.requires.keeping.0 _ c.requires.keeping.1 _ _ _ ea ee refl _ c.join-taken.auto.part;
      r_lt_m = c.requires.keeping.1;
      a_lt_wide_end = f;
    }

pub returns : goal.returns
returns c = let ea : c.start_of-start.result ≡ start_of c.args.ws.now c.args.m (11 * c.args.m) c.args.r = c.start_of-start.ensures.0 in
    let ee : c.end_of-end.result ≡ end_of c.args.ws.now c.args.m (11 * c.args.m) c.args.r = c.end_of-end.ensures.0 in
    record {
      fact = step_floors _ _ _ _ _ c.requires.keeping.0 _ c.requires.keeping.1 _ _ _ ea ee refl _ _ _ _ c.join-taken.auto.part c.join-taken.ensures.fact refl _ c.set_part.ensures c.set_part.auto.ws;
      result_value = c.join-taken.ensures.twin_value;
    }
