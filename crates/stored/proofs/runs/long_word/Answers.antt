-- Two numbers of two bytes make one of four.
use Rattle.stored.proofs.NewCalls.{long_is}
use borrow.Author.Rules.{rules}
use Rattle.stored.proofs.runs.long_word.Goals as goal

pub returns : goal.returns
returns c = (search (rules, long_is), search rules)
