-- `merge::regions::merge_and_filter_regions` meets its contract. Three stages in a row. The filter leaves the pool in order (`filtered_pool`), the merge the numbering's column (`AtRest`),
-- and the merge with floors that stay gives the rule's numbers (`numbered_top`). The records have the whole workspace: nothing is past them, so no merge is noted.
use mathlib.Core.Path.{◌≡◌}
use lib.ListN.{length, take}
use lib.Seq.{take_all}
use native.Mathlib.Omega.{arith}
use Rattle.merge.proofs.TopLaws.{filtered_pool, filtered_laid, filtered-joined, numbered_top, rest_column, rest_blank}
use Rattle.merge.proofs.regions.merge_and_filter_regions.Goals as goal

pub merge_all-requires : goal.merge_all-requires
merge_all-requires c =
    let w : take (length c.filter.new.ws) c.filter.new.ws ≡ c.filter.new.ws = take_all _ _ (omega arith) in
    rw w (
      omega arith,
      filtered_pool _ _ _ _ c.requires _ _ c.filter.ensures.m_after c.filter.ensures.calm.0 c.filter.ensures.calm.1 c.filter.auto.ws,
      filtered_laid _ _ _ _ c.requires _ _ c.filter.ensures.m_after c.filter.ensures.calm.0 c.filter.ensures.calm.1 c.filter.auto.ws,
      filtered-joined _ _ _ _ c.requires _ _ c.filter.ensures.m_after c.filter.ensures.calm.0 c.filter.ensures.calm.1 c.filter.auto.ws,
    )

pub number-requires : goal.number-requires
number-requires c =
    let w : take (length c.filter.new.ws) c.merge_all.new.ws ≡ c.merge_all.new.ws = take_all _ _ (omega (arith, c.merge_all.auto.ws)) in
    let rest = rw w at c.merge_all.ensures.rest in
    (rest_column _ _ rest, rest_blank _ _ rest, c.requires.named, omega (arith, c.requires.room, c.filter.auto.ws, c.merge_all.auto.ws))

pub returns : goal.returns
returns c =
    let v : take (length c.filter.new.ws) c.filter.new.ws ≡ c.filter.new.ws = take_all _ _ (omega arith) in
    let w : take (length c.filter.new.ws) c.merge_all.new.ws ≡ c.merge_all.new.ws = take_all _ _ (omega (arith, c.merge_all.auto.ws)) in
    let same = rw (v, w) at c.merge_all.ensures.same in
    numbered_top _ _ _ _ c.requires _ _ c.filter.ensures.m_after c.filter.ensures.calm.0 c.filter.ensures.calm.1 c.filter.auto.ws _ _ _ _ _ _ same c.number.ensures.cut_value
