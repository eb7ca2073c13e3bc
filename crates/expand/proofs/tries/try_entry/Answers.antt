-- A used entry is no span, and is not tried (Trying).
use borrow.Author.Rules.{rules}
use Rattle.expand.proofs.Halves.{entry_in}
use Rattle.expand.proofs.Trying.{moved_none, tried_used, tried_as}
use Rattle.expand.proofs.tries.try_entry.Goals as goal

pub returns-then-s-eq-NO_SPAN : goal.returns-then-s-eq-NO_SPAN
returns-then-s-eq-NO_SPAN c = record {
  fact = search (rules, moved_none);
  fact_2 = search (rules, tried_used);
}

pub try_span-requires : goal.try_span-requires
try_span-requires c = record {
  closed = search rules;
  board = (search rules, search (rules, entry_in));
}

pub returns : goal.returns
returns c = record {
  fact = search rules;
  fact_2 = search (rules, tried_as);
}
