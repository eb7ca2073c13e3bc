-- `Loader::ended` meets its contract: with the end record read the loader is closed, otherwise the file is cut short.
use Rattle.load.proofs.Ways.{end_read, end_cut}
use Rattle.rules.specs.Load.{closed}
use Rattle.load.proofs.Loader.ended.Goals as goal

pub returns-then-self-eq-END : goal.returns-then-self-eq-END
unfolding closed
returns-then-self-eq-END c = search end_read

pub returns-else-self-eq-END : goal.returns-else-self-eq-END
returns-else-self-eq-END c = search end_cut
