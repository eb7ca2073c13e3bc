-- `merge::merge::place_of` meets its contract. A place past the list is none.
use Rattle.merge.proofs.TurnLaws.{place_none}
use Rattle.merge.proofs.merge.place_of.Goals as goal

pub returns-then-k-l : goal.returns-then-k-l
returns-then-k-l c = place_none _ _ _ _ _ _ c.list_of-l.ensures c.place-k.ensures.0 c.if-k-l.true
