-- `read::load_whole` meets its contract: begin, one piece, the end.
use Rattle.file.proofs.Told.{whole_loaded}
use Rattle.file.proofs.read.load_whole.Goals as goal

pub returns : goal.returns
returns c = search whole_loaded
