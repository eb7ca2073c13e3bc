-- The two halves come to the whole (Steps).
use Rattle.std.proofs.Common.{arith}
use Rattle.trail.proofs.Steps.{halves, follow_none, first_half_lem, other_half, two-halves}
use Rattle.trail.proofs.+follow.Goals as goal

pub returns-then-left-eq0 : goal.returns-then-left-eq0
returns-then-left-eq0 t c = follow_none _ _ _ _ _ _ c.if-left-eq0.true

pub follow-t-requires : goal.follow-t-requires
follow-t-requires t c =
    let h = halves c.args.left c.if-left-eq0.false c.if-left-eq1.false in
    (omega (arith, c.decreases, h.0), first_half_lem _ _ _ _ _ _ _ h.1 c.requires)

pub follow-requires : goal.follow-requires
follow-requires t c =
    let h = halves c.args.left c.if-left-eq0.false c.if-left-eq1.false in
    (omega (arith, c.decreases, h.2), other_half _ _ _ _ _ _ _ h.1 c.requires _ _ _ c.follow-t.auto.list c.follow-t.ensures)

pub returns : goal.returns
returns t c =
    let h = halves c.args.left c.if-left-eq0.false c.if-left-eq1.false in
    two-halves _ _ _ _ _ _ _ h.1 c.requires _ _ _ c.follow-t.auto.list c.follow-t.ensures _ _ _ c.follow.ensures
