-- `pool::relist::relist_here` meets its contract. The joined list past all lists, and the others renamed where they are: `relisted_here`. The places stay linked,
-- and mention what the lists name once the ids are renamed too: `laid_here`.
use mathlib.Core.Path.{sym, ◌∙◌}
use Rattle.pool.proofs.RelistLaws.{searched_here, relisted_here, laid_here}
use Rattle.pool.proofs.relist.relist_here.Goals as goal

pub rename_all-requires : goal.rename_all-requires
rename_all-requires c = (
  searched_here _ _ _ _ _ _ _ _ _ _ _ c.requires.pool_in.0 c.requires.pool_in.1 c.requires.pool_in.2 c.requires.absorbed_bound _ _ _ _ c.absorb-e.auto.ws c.absorb-e.ensures c.requires.pool_in.3 c.requires.pool_in.4.0,
  (λ w. c.requires.pool_in.3.apart (sym c.requires.pool_in.4.0 ∙ w ∙ c.requires.pool_in.4.1)),
)

pub returns-clause-relisted_in : goal.returns-clause-relisted_in
returns-clause-relisted_in c = (
  relisted_here _ _ _ _ _ _ _ _ _ _ _ c.requires.pool_in.0 c.requires.pool_in.1 c.requires.pool_in.2 c.requires.absorbed_bound _ _ _ _ c.absorb-e.auto.ws c.absorb-e.ensures _ c.rename_all.auto.ws c.rename_all.ensures,
  laid_here _ _ _ _ _ _ _ _ _ _ _ c.requires.pool_in.0 c.requires.pool_in.1 c.requires.pool_in.2 c.requires.absorbed_bound _ _ _ _ c.absorb-e.auto.ws c.absorb-e.ensures _ c.rename_all.auto.ws c.rename_all.ensures
      c.requires.pool_in.3 c.requires.pool_in.4.0 c.requires.pool_in.4.1,
)
