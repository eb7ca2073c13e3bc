-- The casts, products and quotient of the code are the rule's value (Exact).
use native.Mathlib.Omega.{arith}
use Rattle.sizes.proofs.Exact.{edge_is}
use Rattle.sizes.proofs.metres.edge.Goals as goal

pub returns : goal.returns
returns c = edge_is _ _ (omega arith) (omega arith)
