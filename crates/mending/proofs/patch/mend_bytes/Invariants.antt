-- Invariant: the file with the first k changes made.
use mathlib.Core.Path.{◌≡◌}
use Rattle.mending.specs.Patch.{bytes_mended}
use Rattle.mending.proofs.patch.mend_bytes.Given as goal

abbrev pub invariant-loop-k : goal.invariant-loop-k
invariant-loop-k l = l.bytes ≡ bytes_mended l.count l.changes l.k l.initial.bytes
