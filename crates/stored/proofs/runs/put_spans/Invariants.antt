-- The loop's invariant: the records of the spans left, written from here on, give what those of all give.
-- Each turn writes one.
use Prim.Native.Nat.{◌-◌}
use Rattle.stored.proofs.NewCalls.{Spans}
use Rattle.stored.proofs.runs.put_spans.Given as goal

abbrev pub invariant-loop : goal.invariant-loop
invariant-loop l = Spans l.initial.out l.at l.x l.k l.next (l.k - l.counter) l.out
