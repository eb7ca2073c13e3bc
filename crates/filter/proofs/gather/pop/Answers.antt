-- `filter::gather::pop` meets its contract. Straight line: the top of the stack moves to the found ones, and its place is zero again.
use Rattle.filter.proofs.GroupLaws.{pop_in_2, pop_is, pop_below, pop_waiting, pop_more, pop_frame}
use borrow.Author.Rules.{rules}
use Rattle.filter.proofs.gather.pop.Goals as goal

pub bounds-ws-m-3 : goal.bounds-ws-m-3
bounds-ws-m-3 c = search (rules, pop_in_2)

pub returns : goal.returns
returns c = record {
  popped = (search pop_is, search pop_below);
  waiting_2 = (search pop_waiting, search pop_more);
  frame = search pop_frame;
}
