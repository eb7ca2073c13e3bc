-- The rules' form and sizes for the code's.
use Rattle.rules.specs.Numbering as rules
use Rattle.rules.specs.Outcomes.{Sizes}
use Rattle.watershed.specs.declared.form.Form.{Form}
use Rattle.watershed.specs.declared.form.Form.TheVariants.{Dense, Compared}
use Rattle.watershed.specs.declared.regions.RegionSizes.{RegionSizes}

unfoldable pub form_of : Form → rules.Form
form_of Dense = rules.dense
form_of Compared = rules.compared

abbrev pub sizes_of : RegionSizes → Sizes
sizes_of z = record { border = z.border; least = z.least; merge = z.merge }
