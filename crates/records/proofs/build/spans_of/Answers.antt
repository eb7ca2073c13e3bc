use mathlib.Core.Path.{refl}
use Rattle.records.specs.Build.{spans_at}
use Rattle.records.proofs.build.spans_of.Goals as goal

pub returns : goal.returns
unfolding spans_at
returns c = refl
