-- The loop's invariant: the runs are the longest exactly if those from run j on are, after the run before.
-- Any run may follow one of the greatest length, as the loop begins.
use Prim.Native.Nat.{◌≤◌, ◌%◌, ◌*◌}
use mathlib.Core.Path.{◌≡◌}
use lib.ListN.{length, drop}
use Rattle.rules.specs.Stored.{new_runs, new_runs_from, longest, longest_after}
use Rattle.stored.proofs.runs.longest_runs.Given as goal

abbrev pub invariant-loop-j : goal.invariant-loop-j
invariant-loop-j l = (length l.new % 5 ≡ 1) × (l.t ≤ 64) × (longest (new_runs l.new) ≡ longest_after l.id l.long (new_runs_from l.t (drop (5 * l.j) l.new)))
