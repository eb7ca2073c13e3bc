-- The objection test, direction by direction.
use Rattle.std.specs.Prelude.{ℕ, zero, suc, ◌+◌, Bool, List, get_or, eqb}
use Rattle.rules.specs.Base.{◌and◌}
use Rattle.rules.specs.Net.{Net}
use Rattle.rules.specs.Growth.{Marks, Seed, other, sees, or_else}
use Rattle.flood.specs.declared.look.Seed as code
use Rattle.flood.specs.declared.look.View.{View}
use Rattle.flood.specs.declared.look.View.TheVariants.{Nothing, TheEnd, Objection}

-- what the code has of a seed is the rule's
abbrev pub seed_of : code.Seed → Seed
seed_of q = record { area = q.area; id = q.id; limit = q.limit }

-- what a span sees in one direction, as the rule numbers it
unfoldable pub view_number : View → ℕ
view_number Nothing = 0
view_number TheEnd = 1
view_number Objection = 2

-- span u has the seed's area and another nonzero id
unfoldable pub bears : List ℕ → List ℕ → Seed → ℕ → Bool
bears areas ids q u = eqb (get_or areas u 256) q.area and other q.id (get_or ids u 0)

-- what the first k directions from d say, 0 for nothing
unfoldable pub sees_from : Net → Marks → Seed → ℕ → ℕ → ℕ → ℕ
sees_from N m q c zero d = 0
sees_from N m q c (suc k) d = or_else (sees N m q c d) (sees_from N m q c k (d + 1))
