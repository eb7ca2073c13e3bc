-- A connection that is none leads nowhere; any other leads to the span that the rule names (Fills).
use Rattle.net.proofs.Fills.{lead_none, lead_some, lead_small}
use borrow.Author.Rules.{rules}
use Rattle.net.proofs.fill.lead.Goals as goal

pub returns-then-cons-d : goal.returns-then-cons-d
returns-then-cons-d c = search (rules, lead_none)

pub overflow_cast-result : goal.overflow_cast-result
overflow_cast-result c = search (rules, lead_small)

pub returns : goal.returns
returns c = search (rules, lead_some)
