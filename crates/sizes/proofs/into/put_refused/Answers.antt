-- Zeros for the sizes, the refusal and zeros for the numbers.
use Rattle.sizes.proofs.Numbers.{all_zero}
use borrow.Author.Rules.{rules}
use Rattle.sizes.proofs.into.put_refused.Goals as goal

pub returns : goal.returns
returns c = (search (rules, all_zero), search rules)
