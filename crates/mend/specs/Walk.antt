-- The mending as the code goes: connection by connection, each decided by the connections as they then are.
use Rattle.std.specs.Prelude.{ℕ, ◌+◌, ◌*◌, ◌/◌, ◌%◌, ◌≤◌, List, [], length, get_or, set, ltb}
use Rattle.rules.specs.Base.{when◌then◌else◌, upto}
use Rattle.rules.specs.Field.{Field}
use Rattle.rules.specs.Mend.{relinked, stays_at}
use Rattle.rules.specs.Refusals.{most_spans}
use Rattle.field.specs.Lent.{lent, Celled}

-- the two lists, and how many changes were found
pub record State : Type 0 where
  pub con : List ℕ
  pub changes : List ℕ
  pub found : ℕ

abbrev pub state : List ℕ → List ℕ → ℕ → State
state con changes found = record { con = con; changes = changes; found = found }

-- the field but for its connections
abbrev pub ground : ℕ → ℕ → List ℕ → List ℕ → List ℕ → Field
ground w h index count area = lent w h index count area []

-- change number k in its place: span, direction, old layer
unfoldable pub noted : List ℕ → ℕ → ℕ → ℕ → ℕ → List ℕ
noted l k s d old = set (set (set l (3 * k) s) (3 * k + 1) d) (3 * k + 2) old

-- connection number i: where it does not stay it is one more change, which is made and noted if it is among the first `room`
unfoldable pub step : Field → ℕ → ℕ → State → State
step G room i v =
    when stays_at (relinked G v.con) i then v else
    when ltb v.found room
    then state (set v.con i 255) (noted v.changes v.found (i / 4) (i % 4) (get_or v.con i 255)) (v.found + 1)
    else state v.con v.changes (v.found + 1)

-- m connections from number a on
unfoldable pub walk : Field → ℕ → ℕ → ℕ → State → State
walk G room a m v = upto m (λ j. step G room (a + j)) v

-- what a walk of m connections needs: cells that are in order, a place for each change that it may make, and a count that stays small
pub record Ready (F : Field) (changes : List ℕ) (room found m : ℕ) : Type 0 where
  pub celled : Celled F
  pub places : 3 * room ≤ length changes
  pub few : found + m ≤ 4 * most_spans
