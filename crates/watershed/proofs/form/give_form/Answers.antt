-- By cases of the form: the compared one is as it came, the dense one lowered.
-- Both ways out are the definition's.
use native.Mathlib.Omega.{arith}
use mathlib.Core.Path.{refl}
use Rattle.rooms.proofs.Entry.{first_some}
use Rattle.watershed.proofs.FormLaws.{form_compared, form_dense}
use Rattle.watershed.proofs.form.give_form.Goals as goal

pub overflow_sub-first : goal.overflow_sub-first
overflow_sub-first c = omega (arith, c.first_id-first.ensures, first_some c.args.border_size)

pub returns-in-Compared : goal.returns-in-Compared
returns-in-Compared c = form_compared _ _ _ _ _ _ c.in-Compared.is

pub returns-in-Dense : goal.returns-in-Dense
returns-in-Dense c = form_dense _ _ _ _ _ _ c.in-Dense.is _ _ _ _ c.first_id-first.ensures refl c.lower_ids.ensures c.saturating_sub.ensures
