-- `pool::build::copy` meets its contract. The loop's invariant: k numbers stand in the new place, and nothing else changed; the old part lies apart.
use Rattle.pool.specs.Part.{Copied}
use Rattle.space.specs.Space.{Frame}
use Prim.Native.Nat.{◌-◌, ◌+◌}
use Rattle.pool.proofs.build.copy.Given as goal

abbrev pub invariant-loop-k : goal.invariant-loop-k
invariant-loop-k l = Frame l.to (l.to + (l.e - l.a)) l.initial.ws l.ws × Copied l.a l.to l.k l.initial.ws l.ws
