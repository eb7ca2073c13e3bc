-- An entry that is used stays; a span of id 0 stays, and its flag rises; a span with an id becomes used (Walks).
use borrow.Author.Rules.{rules}
use Rattle.expand.proofs.Halves.{entry_in}
use Rattle.expand.proofs.Walks.{enter_used, enter_free, enter_held, flag_in}
use Rattle.expand.proofs.flags.enter_one.Goals as goal

pub returns-then-s-eq-NO_SPAN : goal.returns-then-s-eq-NO_SPAN
returns-then-s-eq-NO_SPAN c = search (rules, enter_used)

pub bounds-ids-s : goal.bounds-ids-s
bounds-ids-s c = search (rules, entry_in)

pub bounds-ws-flags : goal.bounds-ws-flags
bounds-ws-flags c = search (rules, flag_in)

pub returns-then-ids-s-eq0 : goal.returns-then-ids-s-eq0
returns-then-ids-s-eq0 c = search (rules, enter_free)

pub returns-else-ids-s-eq0 : goal.returns-else-ids-s-eq0
returns-else-ids-s-eq0 c = search (rules, enter_held)
