-- `numbering::number` meets its contract. Four calls: the numbers, the spans, the overlap count, the count of marks: `number_done` puts them together.
use Rattle.numbering.proofs.NumberLaws.{column_kept}
use Rattle.numbering.proofs.NumberedLaws.{marked-after, number_done}
use borrow.Author.Rules.{rules}
use Rattle.numbering.proofs.number.Goals as goal

pub new_ids-requires : goal.new_ids-requires
new_ids-requires c = (search column_kept, search marked-after, search rules)

pub returns : goal.returns
returns c = record {
  cut_value = search number_done;
  frame = search rules;
}
