-- `into::write` meets its contract: the numbers are copied over.
use Rattle.load.specs.Into.{numbers_of}
use Rattle.load.proofs.into.write.Goals as goal

pub returns : goal.returns
unfolding numbers_of
returns c = c.copy_from_slice.ensures.after
