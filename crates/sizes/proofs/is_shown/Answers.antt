-- Each return is one case of the rule (Tests).
use Rattle.sizes.proofs.Tests.{shown-none, shown_past, shown-flagged, shown_is}
use borrow.Author.Rules.{rules}
use Rattle.sizes.proofs.is_shown.Goals as goal

pub returns-then-id-eq0 : goal.returns-then-id-eq0
returns-then-id-eq0 c = search (rules, shown-none)

pub returns-then-max_region-id : goal.returns-then-max_region-id
returns-then-max_region-id c = search (rules, shown_past)

pub returns-then-id : goal.returns-then-id
returns-then-id c = search (rules, shown-flagged)

pub returns : goal.returns
returns c = search (rules, shown_is)
