-- The loop's invariant: zeros before i; each block adds its own, and the last part what is left (Wiped).
use Prim.Native.Nat.{◌-◌}
use lib.ListN.{length}
use Rattle.wipe.proofs.Wiped.{Wiped}
use Rattle.wipe.proofs.wipe.Given as goal

abbrev pub invariant-loop-ws : goal.invariant-loop-ws
invariant-loop-ws l = Wiped l.initial.ws l.ws l.i

abbrev pub decreases-loop-ws : goal.decreases-loop-ws
decreases-loop-ws l = length l.fn.ws - l.i
