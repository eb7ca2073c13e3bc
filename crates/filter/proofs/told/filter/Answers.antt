-- The loop that tells, or no records at all.
use native.Mathlib.Omega.{arith}
use borrow.Author.Rules.{rules}
use Rattle.space.proofs.Laws.{frame_none}
use Rattle.filter.proofs.FilterLaws.{filter-start, filter_done}
use Rattle.filter.proofs.told.filter.Goals as goal

pub returns-else-m-gt0 : goal.returns-else-m-gt0
returns-else-m-gt0 c = record {
  m_after = filter_done _ _ 0 _ _ (omega arith) c.if-m-gt0.false (filter-start _ _ _);
  calm = (search rules, frame_none _ _ _);
}
