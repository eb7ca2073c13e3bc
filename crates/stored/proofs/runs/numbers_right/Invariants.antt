-- The loop's invariant: all numbers are right exactly if those from record j on are; and where the reading stands (At).
use Prim.Native.Nat.{◌%◌, ◌*◌}
use mathlib.Core.Path.{◌≡◌}
use lib.ListN.{length, drop}
use Rattle.rules.specs.Stored.{right_numbers, right_from}
use Rattle.stored.proofs.NewPlaces.{At}
use Rattle.stored.proofs.runs.numbers_right.Given as goal

abbrev pub invariant-loop-j : goal.invariant-loop-j
invariant-loop-j l = (length l.new % 5 ≡ 1) × At l.new l.j l.t l.spans × (right_numbers l.new ≡ right_from l.t l.spans (drop (5 * l.j) l.new))
