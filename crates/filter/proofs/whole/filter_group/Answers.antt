-- `filter::whole::filter_group` meets its contract. Five calls in a row: `group_done` puts their promises together, `group_count_lem` gives the count, `turn_frame`
-- what they leave alone.
use Rattle.filter.proofs.FilterLaws.{group_done, group_count_lem, turn_frame, found_after, blank-after}
use borrow.Author.Rules.{rules}
use Rattle.filter.proofs.whole.filter_group.Goals as goal

pub forget-requires : goal.forget-requires
forget-requires c = record {
  gathered = (search rules, found_after _ _ _ _ c.gather-f.ensures.upper_bound.2 c.remove_small.ensures.records_in.1, search rules);
  by_index = blank-after _ _ _ c.remove_small.ensures.records_in.1 c.gather-f.ensures.upper_bound.1;
}

pub returns : goal.returns
returns c = record {
  m_after = group_done _ _ _ _ _ _ _ _ _ c.requires.0 c.enter.auto.ws c.gather-f.auto.ws c.enter.ensures.frame c.gather-f.ensures.frame c.enter.ensures.m_after c.gather-f.ensures.result_after c.remove_small.ensures.m_after c.forget.ensures.m_unchanged;
  calm = (search rules, turn_frame _ _ _ _ _ _ c.requires.0 c.forget.ensures.calm.0 c.enter.auto.ws c.gather-f.auto.ws c.remove_small.auto.ws c.forget.auto.ws c.enter.ensures.frame c.gather-f.ensures.frame c.remove_small.ensures.records_in.1 c.forget.ensures.calm.1);
  value = group_count_lem _ _ _ _ _ _ _ _ _ c.requires.0 c.enter.auto.ws c.gather-f.auto.ws c.enter.ensures.frame c.gather-f.ensures.frame c.enter.ensures.m_after c.gather-f.ensures.result_after c.remove_small.ensures.m_after c.forget.ensures.m_unchanged _ c.total-count.ensures;
}
