-- Mending by computation, on the open field of 3 by 3 with connections that were edited: what is listed, what is left, and a list without room.
use Rattle.std.specs.Prelude.{ℕ, ◌≡◌, refl, List, [], ◌∷◌, set}
use Rattle.rules.specs.Base.{◌and◌, ◌or◌, when◌then◌else◌, tab, every}
use Rattle.rules.specs.Field.{cell_of, cell_to, leaves, con_of, near}
use Rattle.rules.specs.Refusals.{good_cells, good_con, good_back, too_wide, too_many, wrong_length, wrong_cells, wrong_reach, wrong_back, refusal}
use Rattle.rules.specs.Mend.{relinked, stays, stays_at, mended_at, mended_con, changes_to, changed_to, mend_refusal, mend_outcome}
use Rattle.rules.specs.Open.{flat, open_con, open_field}
use Rattle.figures.specs.Refused.{good}

-- span 0 leads out of the grid and no more to span 1, span 4 to a layer that span 5's cell lacks
pub edited : List ℕ
edited = set (set (set good.con 0 3) 2 255) 18 1

-- so span 1 is not answered by span 0, nor span 5 by span 4
pub left : List ℕ
left = set (set (set (set edited 0 255) 4 255) 18 255) 20 255

-- spans 0, 1, 4 and 5, each with its direction and its old layer
pub listed : List ℕ
listed = 0 ∷ 0 ∷ 3 ∷ 1 ∷ 0 ∷ 0 ∷ 4 ∷ 2 ∷ 1 ∷ 5 ∷ 0 ∷ 0 ∷ 7 ∷ 7 ∷ []

pub sevens : ℕ → List ℕ
sevens n = tab n 0 (λ _. 7)

-- 14 numbers are four places and two left over; 11 are three places
pub mending_agrees : (mend_outcome (relinked good edited) (sevens 14) ≡ record { refused = 0; count = 4; con = left; changes = listed })
    × (mend_outcome (relinked good edited) (sevens 11) ≡ record { refused = 27; count = 0; con = edited; changes = sevens 11 })
    × (mend_outcome (relinked good left) [] ≡ record { refused = 0; count = 0; con = left; changes = [] })
    × (mend_outcome (relinked good []) [] ≡ record { refused = 3; count = 0; con = []; changes = [] })
unfolding ◌and◌ ◌or◌ when◌then◌else◌ tab every cell_of cell_to leaves con_of near
    good_cells good_con good_back too_wide too_many wrong_length wrong_cells wrong_reach wrong_back refusal
    stays stays_at mended_at mended_con changes_to changed_to mend_refusal mend_outcome flat open_con open_field edited left listed sevens
mending_agrees = (refl, refl, refl, refl)
