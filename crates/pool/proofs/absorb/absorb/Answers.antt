-- `pool::absorb::absorb` meets its contract. The joined list is in place, and two entries of the table are written: `absorbed_is`.
use Rattle.pool.proofs.AbsorbLaws.{absorbed_is}
use Rattle.pool.proofs.absorb.absorb.Goals as goal

pub returns : goal.returns
returns c = absorbed_is _ _ _ _ _ _ _ _ c.requires.0 c.requires.1 _ _ _ _ _ _ c.join_lists-e.ensures.ws_after c.join_lists-e.ensures.lower_bound c.join_lists-e.ensures.frame c.set_part.ensures c.set_part-2.ensures
