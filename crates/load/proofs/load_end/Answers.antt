-- `load_end` meets its contract: a loader that is not going stays as it is.
use Rattle.load.proofs.Ways.{end-going, end-over}
use Rattle.load.proofs.load_end.Goals as goal

pub returns-then-is_going : goal.returns-then-is_going
returns-then-is_going c = search end-going

pub returns-else-is_going : goal.returns-else-is_going
returns-else-is_going c = search end-over
