-- Three stores side by side: they are `noted` as it stands.
use lib.ListN.{length-set}
use Rattle.mend.specs.Walk.{noted}
use native.Mathlib.Omega.{arith}
use borrow.Author.Rules.{rules}
use Rattle.mend.proofs.note.Goals as goal

pub bounds-changes-k-2 : goal.bounds-changes-k-2
bounds-changes-k-2 c = simp length-set (omega arith)

pub bounds-changes-k-3 : goal.bounds-changes-k-3
bounds-changes-k-3 c = simp length-set (omega arith)

pub returns : goal.returns
unfolding noted
returns c = search rules
