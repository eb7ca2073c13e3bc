-- A flagged id stays, another loses d: by cases.
-- Both ways out are the definition's.
use Rattle.watershed.proofs.FormLaws.{lower-flagged, lower-plain}
use borrow.Author.Rules.{rules}
use Rattle.watershed.proofs.form.lower.Goals as goal

pub returns-then-r : goal.returns-then-r
returns-then-r c = search (rules, lower-flagged)

pub returns : goal.returns
returns c = search (rules, lower-plain)
