-- The answers that the check does not find alone.
use native.Mathlib.Omega.{arith}
use mathlib.Core.Path.{refl}
use borrow.Author.Rules.{rules}
use Rattle.flood.proofs.Sight.{looking_stops, looking_objects, looking_on, looking_done}
use Rattle.flood.proofs.look.objects.Goals as goal

pub loop-d-init : goal.loop-d-init
loop-d-init c = record { few = omega arith; same = refl }

pub returns-in-TheEnd : goal.returns-in-TheEnd
returns-in-TheEnd c = search (rules, looking_stops)

pub returns-in-Objection : goal.returns-in-Objection
returns-in-Objection c = search (rules, looking_objects)

pub loop-d-preserved : goal.loop-d-preserved
loop-d-preserved c = search (rules, looking_on)

pub returns : goal.returns
returns c = search (rules, looking_done)
