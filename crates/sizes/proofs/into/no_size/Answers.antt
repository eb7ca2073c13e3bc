-- The literal's bits are zero's.
use Rattle.sizes.proofs.Numbers.{zero_is}
use Rattle.sizes.proofs.into.no_size.Goals as goal

pub returns : goal.returns
returns c = zero_is
