-- `Loader::byte_in` meets its contract: a loader that is not going stays as it is.
use Rattle.load.proofs.Ways.{byte_going, byte_over}
use Rattle.load.proofs.Loader.byte_in.Goals as goal

pub returns-then-is_going : goal.returns-then-is_going
returns-then-is_going c = search byte_going

pub returns-else-is_going : goal.returns-else-is_going
returns-else-is_going c = search byte_over
