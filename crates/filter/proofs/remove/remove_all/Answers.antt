-- The answers that the check does not find alone.
use Rattle.space.proofs.Laws.{frame_none, frame_then}
use Rattle.filter.proofs.RemoveLaws.{all_start, all_below, all_go, all_done}
use borrow.Author.Rules.{rules}
use Rattle.filter.proofs.remove.remove_all.Goals as goal

pub loop-k-init : goal.loop-k-init
loop-k-init c = (search rules, search rules, search rules, search frame_none, search all_start)

pub remove_one-requires : goal.remove_one-requires
remove_one-requires c = (search rules, search all_below)

pub loop-k-preserved : goal.loop-k-preserved
loop-k-preserved c = (search rules, search rules, search rules, search frame_then, search all_go)

pub returns : goal.returns
returns c = record {
  m_after = search all_done;
  records_in = search rules;
}
