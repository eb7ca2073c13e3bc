-- `filter::gather::reach_one` meets its contract. Straight line, by cases on the entry. A record that is pushed was not visited, so fewer than m wait:
-- `push_room`, from those that wait and those not visited together.
use Rattle.space.proofs.Laws.{frame_none}
use Rattle.filter.proofs.GroupLaws.{one-flagged, one_visited, one_dead, visit_in, live_in, push_in, push_in_2, push_waiting, push_group, push_frame}
use borrow.Author.Rules.{rules}
use Rattle.filter.proofs.gather.reach_one.Goals as goal
use Rattle.filter.proofs.gather.reach_one.Goals.{then-ws-m-ne0-via-then-ws-m-ne0, then-ws-m-ne0-via-else-ws-m-ne0+then-ws-q-eq0}

pub returns-then-r : goal.returns-then-r
returns-then-r c = record {
  by_index = search one-flagged;
  waiting = (search rules, search frame_none);
}

pub bounds-ws-m : goal.bounds-ws-m
bounds-ws-m c = search (rules, visit_in)

pub returns-then-ws-m-ne0 : goal.returns-then-ws-m-ne0
returns-then-ws-m-ne0 c = elim c.then-ws-m-ne0.branch [
  | then-ws-m-ne0-via-then-ws-m-ne0 w ↦ record { by_index = search one_visited; waiting = (search rules, search frame_none) }
  | then-ws-m-ne0-via-else-ws-m-ne0+then-ws-q-eq0 w ↦ record { by_index = search one_dead; waiting = (search rules, search frame_none) }
]

pub bounds-ws-q : goal.bounds-ws-q
bounds-ws-q c = search live_in

pub bounds-ws-q-2 : goal.bounds-ws-q-2
bounds-ws-q-2 c = search live_in

pub bounds-ws-m-2 : goal.bounds-ws-m-2
bounds-ws-m-2 c = search push_in

pub bounds-ws-m-3 : goal.bounds-ws-m-3
bounds-ws-m-3 c = search (rules, push_in_2)

pub returns : goal.returns
returns c = record {
  by_index = search push_group;
  waiting = (search push_waiting, search push_frame);
}
