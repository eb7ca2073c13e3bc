-- The loop's invariant: reading the rest of the stretch gives what reading all of it gives (Within).
-- Each turn reads a run.
use Prim.Native.Nat.{◌+◌, ◌-◌, ◌*◌}
use Rattle.stored.proofs.Halving.{Within}
use Rattle.stored.proofs.id.read_stretch.Given as goal

abbrev pub invariant-loop-j : goal.invariant-loop-j
invariant-loop-j l = Within l.file l.p l.before l.span (65 * l.p + 64 - l.j) l.j l.spans
