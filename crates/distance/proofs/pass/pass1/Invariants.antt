-- Invariant: pass 1 has gone through the spans before the next that has four neighbours, or through all, each of which came to at most twice its column,
-- that is 510. What a span reads is earlier in the order of spans.
use Prim.Native.Nat.{◌-◌}
use mathlib.Core.Path.{◌≡◌}
use lib.ListN.{length}
use Rattle.rules.specs.Rows.{from_start}
use Rattle.field.specs.Seen.{seen}
use Rattle.distance.specs.Value.{run_end, Goes, PassedTo}
use Rattle.distance.specs.Walk.{spans_up}
use Rattle.distance.proofs.pass.pass1.Given as goal

abbrev pub invariant-loop-next : goal.invariant-loop-next
invariant-loop-next l = (l.raw ≡ spans_up (from_start (seen l.field)) 0 (run_end (length l.field.area.now) l.next - 0) l.fn.raw) × PassedTo (seen l.field) (run_end (length l.field.area.now) l.next) l.raw × Goes (length l.field.area.now) l.field.con.now l.next

abbrev pub decreases-loop-next : goal.decreases-loop-next
decreases-loop-next l = length l.field.area.now - run_end (length l.field.area.now) l.next
