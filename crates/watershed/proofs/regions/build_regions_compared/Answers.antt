-- The entry in the compared form: the rules' form is the code's, by computation.
use Rattle.watershed.specs.Form.{form_of}
use Rattle.watershed.proofs.regions.build_regions_compared.Goals as goal

pub returns : goal.returns
unfolding form_of
returns c = c.build_form.ensures
