-- Three stores are the three values.
use Rattle.sizes.proofs.Numbers.{three}
use Rattle.sizes.proofs.into.write_numbers.Goals as goal

pub returns : goal.returns
returns c = three c.args.to.now c.args.a c.args.b c.args.c c.requires
