-- With five and three places the values are the outcome's; otherwise nothing is written (Numbers).
use Rattle.sizes.proofs.Numbers.{into_five, into_three, into_done}
use borrow.Author.Rules.{rules}
use Rattle.sizes.proofs.into.measure_into.Goals as goal

pub returns-then-sizes-ne-SIZES : goal.returns-then-sizes-ne-SIZES
returns-then-sizes-ne-SIZES c = search (rules, into_five)

pub returns-then-numbers-ne-NUMBERS : goal.returns-then-numbers-ne-NUMBERS
returns-then-numbers-ne-NUMBERS c = search (rules, into_three)

pub returns : goal.returns
returns c = search (rules, into_done)
