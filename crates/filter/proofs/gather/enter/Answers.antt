-- `filter::gather::enter` meets its contract. Straight line: one record is visited and waits alone.
use Rattle.filter.proofs.GroupLaws.{enter_in, enter_waiting, enter_found, enter_group, enter_frame}
use borrow.Author.Rules.{rules}
use Rattle.filter.proofs.gather.enter.Goals as goal

pub bounds-ws-m-2 : goal.bounds-ws-m-2
bounds-ws-m-2 c = search (rules, enter_in)

pub returns : goal.returns
returns c = record {
  waiting = (search enter_waiting, search enter_found);
  m_after = search enter_group;
  frame = search enter_frame;
}
