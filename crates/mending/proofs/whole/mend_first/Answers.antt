-- The parts that are lent on are as long as the header says, since the lists are long enough for any file.
use native.Mathlib.Omega.{arith}
use lib.ListN.{length-take}
use borrow.Author.Rules.{rules}
use Rattle.mending.proofs.whole.mend_first.Goals as goal

pub slice_bounds-mend_field-end : goal.slice_bounds-mend_field-end
slice_bounds-mend_field-end c = simp length-take (omega arith)

pub slice_bounds-mend_field-end-2 : goal.slice_bounds-mend_field-end-2
slice_bounds-mend_field-end-2 c = simp length-take (omega arith)

pub slice_bounds-mend_field-end-3 : goal.slice_bounds-mend_field-end-3
slice_bounds-mend_field-end-3 c = simp length-take (omega arith)

pub slice_bounds-mend_field-end-5 : goal.slice_bounds-mend_field-end-5
slice_bounds-mend_field-end-5 c = simp length-take (omega arith)

pub mend_field-requires : goal.mend_field-requires
mend_field-requires c = (simp length-take (omega arith), search rules)
