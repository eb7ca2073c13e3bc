-- `Loader::cell_on` meets its contract: one cell more, with its spans due.
use Rattle.load.proofs.Ways.{cell-counted, saturates}
use native.Mathlib.Omega.{arith}
use Rattle.load.proofs.Loader.cell_on.Goals as goal

pub returns : goal.returns
returns c = cell-counted _ _ _ _ _ (saturates _ _ (omega arith) c.saturating_add.ensures) c.counted-m.ensures c.onward.ensures
