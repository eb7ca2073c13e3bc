-- The part of the buffer that is lent is as long as the file, which fits.
use lib.ListN.{length-take}
use native.Mathlib.Omega.{arith}
use Rattle.vectors.proofs.replay_next.Goals as goal

pub slice_bounds-print_next-end : goal.slice_bounds-print_next-end
slice_bounds-print_next-end g c = simp length-take (omega arith)
