-- `numbering::new_id` meets its contract. By cases: a flagged id stays.
use Rattle.numbering.proofs.NumberLaws.{flagged-stays, new_id}
use borrow.Author.Rules.{rules}
use Rattle.numbering.proofs.new_id.Goals as goal

pub returns-then-r : goal.returns-then-r
returns-then-r c = search (rules, flagged-stays)

pub returns : goal.returns
returns c = search (rules, new_id)
