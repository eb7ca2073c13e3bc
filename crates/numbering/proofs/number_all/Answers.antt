-- The answers that the check does not find alone.
use Rattle.space.proofs.Laws.{frame_none, frame_then}
use Rattle.numbering.proofs.NumberLaws.{numbers_start, column_kept, numbers_go, numbers_end}
use borrow.Author.Rules.{rules}
use Rattle.numbering.proofs.number_all.Goals as goal

pub loop-i-init : goal.loop-i-init
loop-i-init c = (search rules, search (rules, frame_none), search (rules, numbers_start))

pub number_one-k-requires : goal.number_one-k-requires
number_one-k-requires c = (search (rules, column_kept), search rules, search rules)

pub loop-i-preserved : goal.loop-i-preserved
loop-i-preserved c = (
  search rules,
  search (rules, frame_then),
  numbers_go _ _ _ _ (search rules) (search rules) (search rules) _ _ _ _ (search rules) (search rules) c.number_one-k.ensures.by_index,
)

pub returns : goal.returns
returns c = record {
  numbers = search (rules, numbers_end);
  frame = search rules;
}
