-- `pool::links::link_one` meets its contract. By cases on whether the place holds a record's id. If it does there are two stores: the link lies before all
-- lasts, so neither is written over the other.
use Rattle.pool.proofs.LinkLaws.{link_one}
use Rattle.pool.proofs.links.link_one.Goals as goal

pub returns-then-r-m : goal.returns-then-r-m
returns-then-r-m c = search link_one
