-- Each return is one case of the rule (Tests).
use Rattle.sizes.proofs.Tests.{ids_long, ids_held}
use borrow.Author.Rules.{rules}
use Rattle.sizes.proofs.wrong_ids.Goals as goal

pub returns-then-ids-n : goal.returns-then-ids-n
returns-then-ids-n c = search (rules, ids_long)

pub returns : goal.returns
returns c = search (rules, ids_held)
