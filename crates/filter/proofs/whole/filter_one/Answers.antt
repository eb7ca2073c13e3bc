-- `filter::whole::filter_one` meets its contract. Straight line, by the rule's three tests.
use Rattle.space.proofs.Laws.{frame_none}
use Rattle.filter.proofs.FilterLaws.{one_dead, one_empty, one_visited, one_group, count_dead, count_empty, count_visited, count_group}
use borrow.Author.Rules.{rules}
use Rattle.filter.proofs.whole.filter_one.Goals as goal
use Rattle.filter.proofs.whole.filter_one.Goals.{then-ws-i-eq0-via-then-ws-i-eq0, then-ws-i-eq0-via-else-ws-i-eq0+then-ws-m-eq0, then-ws-i-eq0-via-else-ws-i-eq0+else-ws-m-eq0+then-ws-m-ne0}

pub returns-then-ws-i-eq0 : goal.returns-then-ws-i-eq0
returns-then-ws-i-eq0 c = elim c.then-ws-i-eq0.branch [
  | then-ws-i-eq0-via-then-ws-i-eq0 w ↦ record { m_after = search one_dead; calm = (search rules, search frame_none); value = search count_dead }
  | then-ws-i-eq0-via-else-ws-i-eq0+then-ws-m-eq0 w ↦ record { m_after = search one_empty; calm = (search rules, search frame_none); value = search count_empty }
  | then-ws-i-eq0-via-else-ws-i-eq0+else-ws-m-eq0+then-ws-m-ne0 w ↦ record { m_after = search one_visited; calm = (search rules, search frame_none); value = search count_visited }
]

pub returns : goal.returns
returns c = record {
  m_after = search one_group;
  calm = (search rules, search rules);
  value = search count_group;
}
