-- Four stores, the last three side by side; they are `noted` as it stands.
use native.Mathlib.Omega.{arith}
use borrow.Author.Rules.{rules}
use lib.ListN.{length-set}
use Rattle.expand.specs.Layout.{noted}
use Rattle.expand.proofs.tries.note.Goals as goal

pub bounds-ws-c : goal.bounds-ws-c
bounds-ws-c c = simp length-set (omega arith)

pub bounds-ws-c-2 : goal.bounds-ws-c-2
bounds-ws-c-2 c = simp length-set (omega arith)

pub bounds-ws-c-3 : goal.bounds-ws-c-3
bounds-ws-c-3 c = simp length-set (omega arith)

pub returns : goal.returns
unfolding noted
returns c = search rules
