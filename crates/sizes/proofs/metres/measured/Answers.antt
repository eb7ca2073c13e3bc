-- Each value is the rule's (`sized_is`).
use Rattle.sizes.proofs.Outcome.{sized_is}
use Rattle.sizes.proofs.metres.measured.Goals as goal

pub returns : goal.returns
returns c = sized_is _ _ _ _ _ _ _ c.floor.ensures c.edge.ensures c.edge-2.ensures c.edge-3.ensures c.edge-4.ensures
