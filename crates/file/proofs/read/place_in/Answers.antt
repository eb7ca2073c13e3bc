-- `read::place_in` meets its contract: a loader that is not refused has no place.
use Rattle.file.proofs.Told.{place_none, place_some}
use Rattle.file.proofs.read.place_in.Goals as goal

pub returns-then-l-eq0 : goal.returns-then-l-eq0
returns-then-l-eq0 c = search place_none

pub returns-else-l-eq0 : goal.returns-else-l-eq0
returns-else-l-eq0 c = search place_some
