-- `answer::reply` meets its contract: the lists that it lends have the lengths that `answer` asks for.
use Rattle.answer.proofs.Printed.{prints-within}
use borrow.Author.Rules.{rules}
use Rattle.answer.proofs.reply.Goals as goal

pub returns : goal.returns
returns c = record {
  prints = search rules;
  upper_bound = search (rules, prints-within);
}
