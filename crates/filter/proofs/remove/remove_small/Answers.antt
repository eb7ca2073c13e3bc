-- `filter::remove::remove_small` meets its contract. Straight line, by cases on the test.
use Rattle.space.proofs.Laws.{frame_none}
use Rattle.filter.proofs.RemoveLaws.{gone_all, gone_none}
use borrow.Author.Rules.{rules}
use Rattle.filter.proofs.remove.remove_small.Goals as goal

pub returns-then-small : goal.returns-then-small
returns-then-small c = record {
  m_after = search gone_all;
  records_in = (search rules, search rules);
}

pub returns-else-small : goal.returns-else-small
returns-else-small c = record {
  m_after = search gone_none;
  records_in = (search rules, search frame_none);
}
