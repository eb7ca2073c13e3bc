-- `pool::own::own_part` meets its contract. Straight line: the part beside a .. e is filled with x.
use Rattle.pool.proofs.OwnLaws.{marked_is}
use Rattle.pool.proofs.own.own_part.Goals as goal

pub returns : goal.returns
returns c = marked_is _ _ _ _ _ _ _ c.requires.0 c.requires.1 c.requires.2 (c.fill.ensures.after (λ y e. e))
