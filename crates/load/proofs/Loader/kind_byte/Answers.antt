-- `Loader::kind_byte` meets its contract: the byte is the kind in place, or is refused there.
use Rattle.load.proofs.Ways.{kind_right, kind_wrong}
use Rattle.load.proofs.Loader.kind_byte.Goals as goal

pub returns-then-kind-wanted : goal.returns-then-kind-wanted
returns-then-kind-wanted c = search kind_right

pub returns-else-kind-wanted : goal.returns-else-kind-wanted
returns-else-kind-wanted c = search kind_wrong
