-- The records lie in the part that is lent, and come back in it (`merged_in`). A turn that merges nothing notes nothing; one that merges finds room, since
-- one record fewer bears its own number (ToldLaws).
use mathlib.Core.Path.{refl}
use mathlib.Core.List.{◌++◌}
use lib.ListN.{drop}
use Prim.Native.Nat.{◌*◌, ◌≤◌}
use Rattle.merge.specs.Told.{MergedIn}
use Rattle.merge.proofs.ToldLaws.{part_size, merged_in, pool_mid, noted-none, noted_some}
use Rattle.merge.proofs.told.merge_one_noted.Goals as goal

pub returns-then-round-noted : goal.returns-then-round-noted
returns-then-round-noted c =
    let mid : 16 * c.args.m ≤ c.args.end = pool_mid _ _ _ _ _ _ c.requires.m_in_bounds.0 c.requires.m_in_bounds.1 in
    let turn : MergedIn c.args.area c.args.i c.args.m c.args.end c.args.ws.now c.args.noted.round (c.merge_one-round.new.ws ++ drop c.args.end c.args.ws.now) c.merge_one-round.result =
    merged_in _ _ _ _ _ _ _ _ c.requires.m_in_bounds.0 c.merge_one-round.auto.ws c.merge_one-round.ensures.merges_after c.merge_one-round.ensures.pool_in_2.0 c.merge_one-round.ensures.pool_in_2.2 c.merge_one-round.ensures.pool_in_2.1 c.merge_one-round.ensures.pool_in_2.3 in
    noted-none _ _ _ _ _ c.args.noted c.requires.joined.1 c.requires.m_in_bounds.0 mid c.requires.joined.0 c.requires.joined.3 _ _ turn
    (part_size _ _ _ c.requires.m_in_bounds.0 c.merge_one-round.auto.ws) c.if-round-noted.true

pub returns : goal.returns
returns c =
    let mid : 16 * c.args.m ≤ c.args.end = pool_mid _ _ _ _ _ _ c.requires.m_in_bounds.0 c.requires.m_in_bounds.1 in
    let turn : MergedIn c.args.area c.args.i c.args.m c.args.end c.args.ws.now c.args.noted.round (c.merge_one-round.new.ws ++ drop c.args.end c.args.ws.now) c.merge_one-round.result =
    merged_in _ _ _ _ _ _ _ _ c.requires.m_in_bounds.0 c.merge_one-round.auto.ws c.merge_one-round.ensures.merges_after c.merge_one-round.ensures.pool_in_2.0 c.merge_one-round.ensures.pool_in_2.2 c.merge_one-round.ensures.pool_in_2.1 c.merge_one-round.ensures.pool_in_2.3 in
    noted_some _ _ _ _ _ c.args.noted c.requires.joined.1 c.requires.m_in_bounds.0 mid c.requires.joined.0 c.requires.joined.3 _ _ turn
    (part_size _ _ _ c.requires.m_in_bounds.0 c.merge_one-round.auto.ws) c.if-round-noted.false _ _ refl refl _ c.note_merge.ensures.noted c.note_merge.ensures.full
