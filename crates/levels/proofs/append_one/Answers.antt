-- An entry of the stack before is a span or used; what remains of it alone is appended.
-- Its place lies within the stacks, and the requires say that there is room for one more.
use native.Mathlib.Omega.{arith}
use Prim.Native.Nat.{◌-◌}
use lib.ListN.{length}
use Rattle.levels.proofs.LevelLaws.{slot}
use Rattle.levels.proofs.AppendLaws.{append_used, append-taken, append-put}
use Rattle.levels.proofs.append_one.Goals as goal

pub overflow_mul-e : goal.overflow_mul-e
overflow_mul-e c = omega (arith, slot (c.args.j - 1) 8 (length c.args.ids.now) c.args.i (omega (arith, c.requires.stack_part)) c.requires.j_in_bounds.1)

pub overflow_add-e : goal.overflow_add-e
overflow_add-e c = omega (arith, slot (c.args.j - 1) 8 (length c.args.ids.now) c.args.i (omega (arith, c.requires.stack_part)) c.requires.j_in_bounds.1)

pub offset_bounds-stacks-j : goal.offset_bounds-stacks-j
offset_bounds-stacks-j c = omega (arith, slot (c.args.j - 1) 8 (length c.args.ids.now) c.args.i (omega (arith, c.requires.stack_part)) c.requires.j_in_bounds.1)

pub bounds-stacks-j : goal.bounds-stacks-j
bounds-stacks-j c = omega (arith, slot (c.args.j - 1) 8 (length c.args.ids.now) c.args.i (omega (arith, c.requires.stack_part)) c.requires.j_in_bounds.1)

pub returns-then-e : goal.returns-then-e
returns-then-e c = search append_used

pub overflow_cast-e : goal.overflow_cast-e
overflow_cast-e c = omega (arith, (c.requires.entry c.if-e.false))

pub offset_bounds-ids-e : goal.offset_bounds-ids-e
offset_bounds-ids-e c = omega (arith, (c.requires.entry c.if-e.false))

pub bounds-ids-e : goal.bounds-ids-e
bounds-ids-e c = (c.requires.entry c.if-e.false)

pub returns-then-ids-e-ne0 : goal.returns-then-ids-e-ne0
returns-then-ids-e-ne0 c = search append-taken

pub returns : goal.returns
returns c = search append-put
