-- Three stages in a row, over the records before `end`, which come back in the part that is lent (`filtered_in`): the filter leaves the pool in order, the merge
-- the numbering's column, and what was noted stays (ToldLaws).
use native.Mathlib.Omega.{arith}
use Prim.Native.Nat.{◌≤◌}
use mathlib.Core.Path.{refl}
use mathlib.Core.List.{◌++◌}
use lib.ListN.{length, drop}
use Rattle.merge.specs.Told.{FilteredIn}
use Rattle.merge.proofs.ToldLaws.{part_size, filtered_in, number_past, told_pool, told_laid, told-joined, told-regions}
use Rattle.merge.proofs.regions.merge_and_filter_told.Goals as goal

pub merge_all-merges-requires : goal.merge_all-merges-requires
merge_all-merges-requires c =
    let h : c.args.end ≤ length c.args.ws.now = omega (arith, c.requires.0) in
    let F : FilteredIn c.args.min_region_area c.args.r c.args.m c.args.end c.args.ws.now (c.filter_told-group.new.ws ++ drop c.args.end c.args.ws.now) c.filter_told-group.result =
    filtered_in _ _ _ _ _ _ _ h c.filter_told-group.auto.ws c.filter_told-group.ensures.m_after c.filter_told-group.ensures.calm.0 c.filter_told-group.ensures.calm.1 c.filter_told-group.ensures.value in
    let size = part_size _ _ _ h c.filter_told-group.auto.ws in (
      omega (arith, size, h),
      told_pool _ c.args.merge_region_size _ _ _ _ _ _ c.requires.0 c.requires.1 c.requires.2 _ _ F size,
      told_laid _ c.args.merge_region_size _ _ _ _ _ _ c.requires.0 c.requires.1 c.requires.2 _ _ F size,
      told-joined _ c.args.merge_region_size _ _ _ _ _ _ c.requires.0 c.requires.1 c.requires.2 _ _ F size,
    )

pub returns : goal.returns
returns c =
    let h : c.args.end ≤ length c.args.ws.now = omega (arith, c.requires.0) in
    let F : FilteredIn c.args.min_region_area c.args.r c.args.m c.args.end c.args.ws.now (c.filter_told-group.new.ws ++ drop c.args.end c.args.ws.now) c.filter_told-group.result =
    filtered_in _ _ _ _ _ _ _ h c.filter_told-group.auto.ws c.filter_told-group.ensures.m_after c.filter_told-group.ensures.calm.0 c.filter_told-group.ensures.calm.1 c.filter_told-group.ensures.value in
    let size = part_size _ _ _ h c.filter_told-group.auto.ws in
    let k : c.args.end ≤ length c.merge_all-merges.new.ws = omega (arith, size, h, c.merge_all-merges.auto.ws) in
    told-regions _ _ _ _ _ _ _ _ c.requires.0 c.requires.1 c.requires.2 _ _ F size _ _ c.merge_all-merges.ensures _
    (number_past c.args.end c.merge_all-merges.new.ws c.number-regions.new.ws k c.number-regions.auto.ws) _ _ _ _ c.number-regions.ensures.cut_value _ refl
