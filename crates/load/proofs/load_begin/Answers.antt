-- `load_begin` meets its contract: but for the limits, all is 0.
use Rattle.rules.specs.Load.{load_begin}
use Rattle.load.proofs.load_begin.Goals as goal

pub returns : goal.returns
unfolding load_begin
returns c = cc
