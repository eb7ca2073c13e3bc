-- The answers that the check does not find alone.
use borrow.Author.Rules.{rules}
use Rattle.levels.proofs.LevelLaws.{moved_then, moved_lists}
use Rattle.levels.proofs.SortLaws.{sort_start, sort_done, sort_kept, sort_stacked}
use Rattle.levels.proofs.sort_cells_by_level.Goals as goal

pub loop-i-init : goal.loop-i-init
loop-i-init c = (search rules, search sort_start)

pub sort_block-requires : goal.sort_block-requires
sort_block-requires c = record {
  sort_lists = (search moved_lists, search rules, search rules);
  fills_value = search rules;
  from_value = search rules;
}

pub loop-i-preserved : goal.loop-i-preserved
loop-i-preserved c = (search rules, search moved_then)

pub sort_some-requires : goal.sort_some-requires
sort_some-requires c = record {
  sort_lists = (search moved_lists, search rules, search rules, search rules);
  fills_value = search rules;
}

pub returns : goal.returns
returns c = record {
  fills_after = search sort_done;
  kept = search sort_kept;
  fact = search sort_stacked;
  turn_value = search rules;
}
