-- The first id, by cases of the border.
-- Both ways out are the rule's.
use Rattle.watershed.proofs.FormLaws.{first-without, first-with}
use borrow.Author.Rules.{rules}
use Rattle.watershed.proofs.form.first_id.Goals as goal

pub returns-then-border_size-eq0 : goal.returns-then-border_size-eq0
returns-then-border_size-eq0 c = search (rules, first-without)

pub returns : goal.returns
returns c = search (rules, first-with)
