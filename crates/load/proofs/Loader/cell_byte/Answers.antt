-- `Loader::cell_byte` meets its contract: over the limit nothing is stored.
-- Its promise holds for any areas and connections, which it is not lent.
use Rattle.load.proofs.Ways.{cell-over, cell_fits}
use Rattle.load.proofs.Loader.cell_byte.Goals as goal

pub returns-then-self-b : goal.returns-then-self-b
returns-then-self-b c = search cell-over

pub returns : goal.returns
returns c = search cell_fits
