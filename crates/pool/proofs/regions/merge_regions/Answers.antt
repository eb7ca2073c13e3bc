-- `pool::regions::merge_regions` meets its contract. Lists, counts, ids, marks, in this order: `region_recs` is the rule's outcome; counts and ids lie below
-- the table, the marks between table and pool, so `region_pool` and `region_laid` follow from how `relist` leaves the lists.
use Rattle.pool.proofs.RegionLaws.{spans_fit, owners_still, region_recs, region_pool, region_laid, pool_sized, laid_sized}
use Rattle.pool.proofs.regions.merge_regions.Goals as goal

pub recount-requires-clause-i_bound : goal.recount-requires-clause-i_bound
recount-requires-clause-i_bound c = search spans_fit

pub hand_over-requires : goal.hand_over-requires
hand_over-requires c = owners_still _ _ _ _ _ _ _ _ _ _ c.requires.0 c.requires.2 _ _ _ _ _ c.requires.1.room c.relist-there.ensures.size_value.2 c.relist-there.ensures.relisted_in.0 c.relist-there.auto.ws _ c.recount.ensures c.recount.auto.ws

pub returns : goal.returns
returns c = record {
  m_after = region_recs _ _ _ _ _ _ _ _ _ _ _ _ _ _ _ c.requires.0 c.requires.1.room c.requires.2 c.relist-there.ensures.size_value.2 c.relist-there.ensures.relisted_in.0 c.relist-there.auto.ws c.recount.ensures c.recount.auto.ws c.hand_over.ensures c.hand_over.auto.ws _ c.carry_mark.ensures;
  pool_in = (
    pool_sized _ _ _ _ _ _ c.relist-there.ensures.size_value.0 (region_pool _ _ _ _ _ _ _ _ _ _ _ _ _ _ _ c.requires.0 c.requires.1.room c.requires.2 c.relist-there.ensures.size_value.2 c.relist-there.ensures.relisted_in.0 c.relist-there.auto.ws c.recount.ensures c.recount.auto.ws c.hand_over.ensures c.hand_over.auto.ws _ c.carry_mark.ensures),
    laid_sized _ _ _ _ _ _ _ _ _ _ _ _ c.relist-there.ensures.size_value.0 c.relist-there.ensures.size_value.1 (region_laid _ _ _ _ _ _ _ _ _ _ _ _ _ _ _ c.requires.0 c.requires.1.room c.requires.2 c.relist-there.ensures.size_value.2 c.relist-there.ensures.relisted_in.0 c.relist-there.auto.ws c.recount.ensures c.recount.auto.ws c.hand_over.ensures c.hand_over.auto.ws _ c.carry_mark.ensures _) c.relist-there.ensures.relisted_in.1,
    c.relist-there.ensures.size_value.0,
    c.relist-there.ensures.size_value.1,
  );
}
