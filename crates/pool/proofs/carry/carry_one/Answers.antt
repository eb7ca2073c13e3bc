-- `pool::carry::carry_one` meets its contract. Copied, renamed, and the table's entry written: `moved_is` puts the three together.
use Rattle.pool.proofs.CarryLaws.{moved_is}
use Rattle.pool.proofs.carry.carry_one.Goals as goal

pub returns : goal.returns
returns c = moved_is _ _ _ _ _ _ _ c.requires c.start_of-start.ensures.0 c.end_of-end.ensures.0 _ _ _ _ _ _ c.copy.auto.ws c.rename_live-left.auto.ws c.copy.ensures.ws_after c.copy.ensures.frame c.rename_live-left.ensures.ws_after c.rename_live-left.ensures.lower_bound c.rename_live-left.ensures.frame c.set_part.ensures
