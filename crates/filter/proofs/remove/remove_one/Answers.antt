-- `filter::remove::remove_one` meets its contract. Straight line: two stores, in the columns of ids and counts.
use Rattle.filter.proofs.RemoveLaws.{remove_in_2, remove_recs, remove_held, remove_frame}
use borrow.Author.Rules.{rules}
use Rattle.filter.proofs.remove.remove_one.Goals as goal

pub bounds-ws-i : goal.bounds-ws-i
bounds-ws-i c = search (rules, remove_in_2)

pub returns : goal.returns
returns c = record {
  m_after = search remove_recs;
  records_in = (search remove_held, search remove_frame);
}
