-- 14 is asked for where 1 to 8 have passed (ExplainLaws).
use borrow.Author.Rules.{rules}
use Rattle.watershed.proofs.ExplainLaws.{explain_refused, explain_passes, explain_no_span}
use Rattle.watershed.proofs.explain.check_explain.Goals as goal

pub returns-then-span-field : goal.returns-then-span-field
returns-then-span-field c = search (rules, explain_passes)

pub returns-in-Err : goal.returns-in-Err
returns-in-Err c = search (rules, explain_refused)

pub returns-else-span-field : goal.returns-else-span-field
returns-else-span-field c = search (rules, explain_no_span)
