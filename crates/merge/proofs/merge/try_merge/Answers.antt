-- `merge::merge::try_merge` meets its contract. By cases: one of the two does not list the other, or both list each other.
use Rattle.merge.proofs.TurnLaws.{try_none, try_none_2, try_listed, try_some}
use Rattle.merge.proofs.merge.try_merge.Goals as goal

pub returns-in_default-clause-merges_after : goal.returns-in_default-clause-merges_after
returns-in_default-clause-merges_after c = try_none _ _ _ _ _ _ _ c.requires.pool_in.0 c.requires.i_lt_m.0 c.requires.i_lt_m.1 _ c.in_default.ensures

pub returns-in_default-place_of-clause-merges_after : goal.returns-in_default-place_of-clause-merges_after
returns-in_default-place_of-clause-merges_after c = try_none_2 _ _ _ _ _ _ _ c.requires.pool_in.0 c.requires.i_lt_m.0 c.requires.i_lt_m.1 _ c.in_default-place_of.ensures

pub merge_regions-requires : goal.merge_regions-requires
merge_regions-requires c = (
  c.requires.pool_in.0,
  c.requires.pool_in.1,
  try_listed _ _ _ _ _ _ _ c.requires.pool_in.0 c.requires.i_lt_m.0 c.requires.i_lt_m.1 c.args.round.merges _ c.in-Some.ensures _ c.in-Some-place_of.ensures c.requires.i_lt_m.2 c.requires.fact.0 c.requires.fact.1 c.requires.fact.2,
)

pub returns-clause-merges_after : goal.returns-clause-merges_after
returns-clause-merges_after c = try_some _ _ _ _ _ _ _ c.requires.pool_in.0 c.requires.i_lt_m.0 c.requires.i_lt_m.1 _ _ c.in-Some.ensures _ c.in-Some-place_of.ensures _ c.merge_regions.ensures.m_after
