-- With eleven places the numbers are the outcome's; otherwise nothing is written (ExplainLaws).
use borrow.Author.Rules.{rules}
use Rattle.watershed.proofs.ExplainLaws.{into_other, into_told, meant_other, meant_told}
use Rattle.watershed.proofs.into.explain_into.Goals as goal

pub returns-then-answer-ne-NUMBERS : goal.returns-then-answer-ne-NUMBERS
returns-then-answer-ne-NUMBERS c = record {
  into = search (rules, into_other);
  meant = search (rules, meant_other);
}

pub returns : goal.returns
returns c = record {
  into = search (rules, into_told);
  meant = search (rules, meant_told);
}
