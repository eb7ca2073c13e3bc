-- The answers that the check does not find alone.
use Rattle.records.proofs.CellLaws.{twins-start, twins_go, twins-end}
use Rattle.records.proofs.JoinLaws.{join_start, join_room, join_unchanged, join_next, join_end}
use native.Mathlib.Omega.{arith}
use Rattle.records.proofs.cell.join.Goals as goal

pub bounds-ids-s : goal.bounds-ids-s
bounds-ids-s c = (omega (arith, c.requires.roomy.inside, c.requires.roomy.upper))

pub is_near-near-requires : goal.is_near-near-requires
is_near-near-requires c = (c.requires.roomy.spans, record { few = c.requires.roomy.few; inside = c.requires.roomy.inside; lower = c.requires.roomy.lower; upper = c.requires.roomy.upper }, c.requires.lies)

pub loop-j-init : goal.loop-j-init
loop-j-init c = (join_start _ _ _ _ _ _ c.requires.roomy, twins-start _ _ _ _ _)

pub overflow_cast-j : goal.overflow_cast-j
overflow_cast-j c = omega (arith, c.requires.roomy.few, c.loop-j-test.true)

pub at-other-requires : goal.at-other-requires
at-other-requires c = omega (arith, c.requires.roomy.inside, c.requires.roomy.spans, c.loop-j-test.true)

pub met-twin-requires : goal.met-twin-requires
met-twin-requires c = omega (arith, c.requires.roomy.inside, c.at-other.ensures, c.loop-j-test.true)

pub overflow_add-prior : goal.overflow_add-prior
overflow_add-prior c = omega (arith, c.requires.prior.1, c.requires.roomy.few, c.loop-j-test.true)

pub join_changed-l-requires : goal.join_changed-l-requires
join_changed-l-requires c = let room = join_room _ _ _ _ _ _ c.requires.roomy _ _ _ c.loop-j.invariant.0 c.loop-j-test.true _ c.at-other.ensures in
    record {
      other_in_bounds = omega (arith, c.requires.roomy.inside, c.at-other.ensures, c.loop-j-test.true);
      len_in_bounds = room.0;
      len_in_bounds_2 = room.1;
      unchanged = λ n. let r = c.is_near-near.ensures n in join_unchanged _ _ _ _ _ _ _ _ _ c.requires.roomy (c.requires.lies r.0) (c.requires.prior.0 r.0) c.loop-j.invariant.0 c.loop-j-test.true r.1 _ c.at-other.ensures;
    }

pub loop-j-preserved : goal.loop-j-preserved
loop-j-preserved c = (
  join_next _ _ _ _ _ _ c.requires.roomy _ _ _ c.loop-j.invariant.0 c.loop-j-test.true _ c.at-other.ensures _ _ c.join_changed-l.ensures.fact c.join_changed-l.ensures.len_value c.join_changed-l.auto.part,
  twins_go _ _ _ _ _ _ _ c.loop-j.invariant.1 _ c.at-other.ensures _ c.loop-j-test.true c.met-twin.ensures,
)

pub shape_of-part : goal.shape_of-part
shape_of-part c = c.loop-j.invariant.0.length'

pub returns : goal.returns
returns c = record {
  fact = join_end _ _ _ _ _ _ c.requires.roomy _ _ _ c.loop-j.invariant.0 c.loop-j-test.false;
  twin_value = twins-end _ _ _ _ _ _ _ c.loop-j.invariant.1 c.loop-j-test.false;
}
