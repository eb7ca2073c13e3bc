-- The answers that the check does not find alone.
use Rattle.space.proofs.Laws.{frame_none, frame_then}
use Rattle.filter.proofs.FilterLaws.{filter-start, filter_go, filter_done, gone_start, gone_go, gone_done}
use borrow.Author.Rules.{rules}
use Rattle.filter.proofs.told.filter_told.Goals as goal

pub loop-i-init : goal.loop-i-init
loop-i-init c = (search rules, search rules, search rules, search frame_none, search filter-start, search gone_start)

pub loop-i-preserved : goal.loop-i-preserved
loop-i-preserved c = (
  search rules,
  search rules,
  search rules,
  search frame_then,
  search filter_go,
  gone_go _ _ _ _ _ _ _ _ _ _ c.requires.1 c.loop-i.invariant.4 c.filter_one-count.ensures.m_after c.loop-i.invariant.5 c.filter_one-count.ensures.value c.gone-told.ensures,
)

pub returns : goal.returns
returns c = record {
  m_after = search filter_done;
  calm = (search rules, search rules);
  value = search gone_done;
}
