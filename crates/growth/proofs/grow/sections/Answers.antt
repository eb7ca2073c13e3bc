-- The sections follow one another, and the table is past them.
use mathlib.Core.Path.{refl}
use Rattle.growth.proofs.grow.sections.Goals as goal

pub returns : goal.returns
returns c = (record { changes = refl; stack = refl; past = c.requires.1 }, refl)
