-- The net of a field: who is whose neighbour, and which area each span has. Growth reads no more of a field than this.
use Rattle.std.specs.Prelude.{ℕ, ◌+◌, ◌*◌, ◌/◌, ◌%◌, List, length, get_or}
use Rattle.rules.specs.Base.{tab}
use Rattle.rules.specs.Field.{Field, none}
use Rattle.rules.specs.Field as field

-- four neighbours a span, in direction order, `none` where there is none; and an area a span
pub record Net : Type 0 where
  pub neighbours : List ℕ
  pub areas : List ℕ

-- n
abbrev pub spans : Net → ℕ
spans N = length N.areas

-- the neighbour of span s in direction d
unfoldable pub near : Net → ℕ → ℕ → ℕ
near N s d = get_or N.neighbours (4 * s + d) none

-- "The corner neighbour in direction d is the neighbour's neighbour in direction d+1 (3 wraps to 0)."
unfoldable pub corner : Net → ℕ → ℕ → ℕ
corner N s d = near N (near N s d) ((d + 1) % 4)

-- the area of a span; no span has area 256
unfoldable pub area_of : Net → ℕ → ℕ
area_of N s = get_or N.areas s 256

-- ""Neighbour" below means the span that a connection leads to.": worked out once, for each span and direction
unfoldable pub neighbours_of : Field → List ℕ
neighbours_of F = tab (4 * field.spans F) 0 (λ i. field.near F (i / 4) (i % 4))

abbrev pub net_of : Field → Net
net_of F = record { neighbours = neighbours_of F; areas = F.area }
