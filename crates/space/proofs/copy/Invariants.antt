-- The loop's invariant: up to i the list is the other (`Copied`).
use Rattle.space.proofs.Laws.{Copied}
use Rattle.space.proofs.copy.Given as goal

abbrev pub invariant-loop-i : goal.invariant-loop-i
invariant-loop-i l = Copied l.from l.to l.i
