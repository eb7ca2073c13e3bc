-- `numbering::number_all` meets its contract. The loop's invariant: the numbers given so far stand at b, for the first i records.
use Prim.Native.Nat.{◌≤◌, ◌+◌}
use mathlib.Core.List.{[]}
use lib.ListN.{take}
use Rattle.numbering.specs.Number.{Numbers, live_ids}
use Rattle.space.specs.Space.{Frame}
use Rattle.numbering.proofs.number_all.Given as goal

abbrev pub invariant-loop-i : goal.invariant-loop-i
invariant-loop-i l = (l.k ≤ l.i) × Frame l.numbers (l.numbers + l.m) l.initial.ws l.ws × Numbers l.m l.numbers l.ws (live_ids (take l.i l.initial.ws) []) l.k
