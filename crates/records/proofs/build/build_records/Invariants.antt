-- The invariant `Running`: after the cells before c the records are the rule's after those cells' spans, and what is past them is as it was; and
-- `Knowing`: those of the last cell's spans have what they take from it.
-- It starts with new records.
use Prim.Native.Nat.{◌+◌}
use Rattle.field.specs.Seen.{seen}
use Rattle.records.specs.Build.{Knowing}
use Rattle.records.proofs.BuildLaws.{Running}
use Rattle.records.proofs.build.build_records.Given as goal

abbrev pub invariant-loop-c : goal.invariant-loop-c
invariant-loop-c l = Running (seen l.field) l.ids (l.next + 1) l.t.top l.c l.initial.ws l.ws × Knowing l.ids (l.next + 1) l.t.last l.ws
