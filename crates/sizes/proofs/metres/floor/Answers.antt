-- The casts, products and quotient of the code are the rule's value (Exact).
use native.Mathlib.Omega.{arith}
use Rattle.sizes.proofs.Exact.{floor_is_lem}
use Rattle.sizes.proofs.metres.floor.Goals as goal

pub returns : goal.returns
returns c = floor_is_lem _ _ (omega arith) (omega arith)
