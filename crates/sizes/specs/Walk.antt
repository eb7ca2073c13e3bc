-- What the walk's promises cite.
use Rattle.std.specs.Prelude.{ℕ, List, get_or, eqb}
use Rattle.rules.specs.Base.{when◌then◌else◌}
use Rattle.rules.specs.Sizes.{Extent, added}
use Rattle.sizes.specs.declared.walk.Extent as code

-- the rule's record of the code's
abbrev pub extent_at : code.Extent → Extent
extent_at e = record { count = e.count; area = e.area; x_least = e.x_least; x_past = e.x_past; z_least = e.z_least; z_past = e.z_past }

-- span s, which stands at (x, z), if it has the id
unfoldable pub note_at : List ℕ → List ℕ → ℕ → ℕ → ℕ → ℕ → Extent → Extent
note_at area ids id x z s e = when eqb (get_or ids s 0) id then added (get_or area s 0) x z e else e
