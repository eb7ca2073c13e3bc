-- Five stores are the five values.
use Rattle.sizes.proofs.Numbers.{five, last-place}
use Rattle.sizes.proofs.into.write_sizes.Goals as goal

pub bounds-to-4 : goal.bounds-to-4
bounds-to-4 c = last-place c.args.to.now c.args.a c.args.b c.args.c c.args.d c.requires

pub returns : goal.returns
returns c = five c.args.to.now c.args.a c.args.b c.args.c c.args.d c.args.e c.requires
