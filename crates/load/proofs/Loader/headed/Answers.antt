-- `Loader::headed` meets its contract: over the limit it is refused at its kind byte.
use Rattle.load.proofs.Ways.{headed-over, headed_fits}
use Rattle.load.proofs.Loader.headed.Goals as goal

pub returns-then-self-grid : goal.returns-then-self-grid
returns-then-self-grid c = search headed-over

pub returns-else-self-grid : goal.returns-else-self-grid
returns-else-self-grid c = search headed_fits
