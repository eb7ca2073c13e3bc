-- `pool::relist::relist_there` meets its contract. The joined list, all others after it, then their records beside them, then the places linked:
-- `relisted_there`, `laid_there`. All lists together fit the half.
use Rattle.pool.proofs.RelistLaws.{target_there, sources_there, standing_there, relisted_there, laid_there}
use Rattle.pool.proofs.relist.relist_there.Goals as goal

pub absorb-e-requires : goal.absorb-e-requires
absorb-e-requires c = (target_there _ _ _ _ _ _ _ _ _ c.requires.0 c.requires.2 _ c.requires.1.room, c.requires.2)

pub carry_all-top-requires : goal.carry_all-top-requires
carry_all-top-requires c = sources_there _ _ _ _ _ _ _ _ _ c.requires.0 c.requires.2 _ c.requires.1.room _ _ _ _ c.absorb-e.auto.ws c.absorb-e.ensures

pub own_all-requires : goal.own_all-requires
own_all-requires c = standing_there _ _ _ _ _ _ _ _ _ c.requires.0 c.requires.2 _ c.requires.1.room _ _ _ _ c.absorb-e.auto.ws c.absorb-e.ensures _ _ c.carry_all-top.auto.ws c.carry_all-top.ensures

pub returns-clause-relisted_in : goal.returns-clause-relisted_in
returns-clause-relisted_in c = (
  relisted_there _ _ _ _ _ _ _ _ _ c.requires.0 c.requires.2 _ c.requires.1.room _ _ _ _ c.absorb-e.auto.ws c.absorb-e.ensures _ _ c.carry_all-top.auto.ws c.carry_all-top.ensures
      _ c.own_all.auto.ws c.own_all.ensures.frame _ c.link_all.auto.ws c.link_all.ensures.linked c.link_all.ensures.frame,
  laid_there _ _ _ _ _ _ _ _ _ c.requires.0 c.requires.2 _ c.requires.1.room _ _ _ _ c.absorb-e.auto.ws c.absorb-e.ensures _ _ c.carry_all-top.auto.ws c.carry_all-top.ensures
      _ c.own_all.auto.ws c.own_all.ensures.frame _ c.link_all.auto.ws c.link_all.ensures.linked c.link_all.ensures.frame
      c.requires.3 c.requires.4.0 c.requires.4.1 c.own_all.ensures.owned,
)
