-- Flags fall and the stack is marked in one walk, and then the changes are zeroed (Ends).
use native.Mathlib.Omega.{arith}
use borrow.Author.Rules.{rules}
use Rattle.expand.proofs.Ends.{left_end, settled}
use Rattle.expand.proofs.expand.settle.Goals as goal

pub clear_part-requires : goal.clear_part-requires
clear_part-requires c = (omega arith, search (rules, left_end))

pub returns : goal.returns
returns c = settled _ _ _ _ _ _ _ _ c.requires.0 c.requires.1 c.requires.2 c.requires.3 c.requires.4 c.leave_all.ensures _ c.clear_part.auto.ws c.clear_part.ensures.0 c.clear_part.ensures.1
