-- The answers that the check does not find alone.
use borrow.Author.Rules.{rules}
use Rattle.levels.proofs.LevelLaws.{moved_none, moved_then, moved_lists}
use Rattle.levels.proofs.SortLaws.{moved_to}
use Rattle.levels.proofs.sort_some.Goals as goal

pub loop-k-init : goal.loop-k-init
loop-k-init c = (search rules, search moved_none)

pub sort_one-requires : goal.sort_one-requires
sort_one-requires c = record {
  sort_lists = (search moved_lists, search rules, search rules);
  fills_value = search rules;
}

pub loop-k-preserved : goal.loop-k-preserved
loop-k-preserved c = (search rules, search moved_then)

pub returns : goal.returns
returns c = search moved_to
