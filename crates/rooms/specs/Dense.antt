-- The dense form by one number: ids in use are exactly first to max_region - 1 in the compared form, so what is left out lies below first.
use Rattle.std.specs.Prelude.{ℕ, suc, ◌-◌, map}
use Rattle.rules.specs.Base.{when◌then◌else◌}
use Rattle.rules.specs.Growth.{flagged, first_id}
use Rattle.rules.specs.Numbering.{Form, dense, compared, Regions}

-- "Flagged ids stay.", the others lose d
unfoldable pub lower : ℕ → ℕ → ℕ
lower d r = when flagged r then r else r - d

-- with first the first id that the compared form can have
unfoldable pub lowered : ℕ → Regions → Regions
lowered first v = record { ids = map (lower (first - 1)) v.ids; most = v.most - first; over = v.over; cut = v.cut }

unfoldable pub shifted : Form → ℕ → Regions → Regions
shifted dense first v = lowered first v
shifted compared first v = v

-- the first id that a room can have, and the number past the last one, of max_region
unfoldable pub first_in : Form → ℕ → ℕ
first_in dense border = 1
first_in compared border = first_id border

unfoldable pub past_in : Form → ℕ → ℕ
past_in dense most = suc most
past_in compared most = most
