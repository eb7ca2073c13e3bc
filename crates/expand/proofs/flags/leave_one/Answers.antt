-- An entry that is used stays; the flag of a span falls, and one with an id becomes used. The stack lies before the flags (Walks).
use native.Mathlib.Omega.{arith}
use lib.ListN.{length-set}
use borrow.Author.Rules.{rules}
use Rattle.expand.proofs.Halves.{entry_in}
use Rattle.expand.proofs.Walks.{leave_used, leave_free, leave_held, flag_in}
use Rattle.expand.proofs.flags.leave_one.Goals as goal

pub returns-then-s-eq-NO_SPAN : goal.returns-then-s-eq-NO_SPAN
returns-then-s-eq-NO_SPAN c = search (rules, leave_used)

pub bounds-ws-flags : goal.bounds-ws-flags
bounds-ws-flags c = search (rules, flag_in)

pub bounds-ids-s : goal.bounds-ids-s
bounds-ids-s c = search (rules, entry_in)

pub returns-else-ids-s-ne0 : goal.returns-else-ids-s-ne0
returns-else-ids-s-ne0 c = search (rules, leave_free)

pub bounds-ws-i-then-ids-s-ne0 : goal.bounds-ws-i-then-ids-s-ne0
bounds-ws-i-then-ids-s-ne0 c = simp length-set (omega (arith, c.requires.i_lt_flags.0, c.requires.ids_in_bounds.0))

pub returns-then-ids-s-ne0 : goal.returns-then-ids-s-ne0
returns-then-ids-s-ne0 c = search (rules, leave_held)
