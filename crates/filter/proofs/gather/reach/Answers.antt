-- The answers that the check does not find alone.
use Rattle.filter.proofs.GroupLaws.{reach-start, entry_in, entry_under, reach_go, reach_done, reach_from, reach_order}
use Rattle.space.proofs.Laws.{frame_none, frame_then}
use borrow.Author.Rules.{rules}
use Rattle.filter.proofs.gather.reach.Goals as goal

pub loop-k-init : goal.loop-k-init
loop-k-init c = (search reach_from, search reach_order, search rules, search rules, search frame_none, search reach-start)

pub bounds-ws-k : goal.bounds-ws-k
bounds-ws-k c = search entry_in

pub reach_one-n-requires : goal.reach_one-n-requires
reach_one-n-requires c = (search rules, search entry_under)

pub loop-k-preserved : goal.loop-k-preserved
loop-k-preserved c = (
  search rules,
  search rules,
  search rules,
  search rules,
  search frame_then,
  (reach_go _ _ _ _ _ _ _ c.loop-k.invariant.4 c.loop-k.invariant.2 c.loop-k-test.true c.end_of-e.ensures.0 c.loop-k.invariant.0 c.requires.1 c.requires.0 _ _ _ c.loop-k.invariant.5 c.reach_one-n.ensures.by_index c.reach_one-n.ensures.waiting.1),
)

pub returns : goal.returns
returns c = record {
  f_after = search reach_done;
  waiting = (search rules, search rules);
}
