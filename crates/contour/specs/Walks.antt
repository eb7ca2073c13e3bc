-- The walk of the rules, stride by stride.
use Rattle.std.specs.Prelude.{◌≡◌, Bool, true, false, List, [], ◌∷◌, ℕ, zero, suc, ◌≤◌, ◌<◌, get_or, eqb}
use Rattle.rules.specs.Base.{◌and◌}
use Rattle.rules.specs.Net.{Net, spans}
use Rattle.rules.specs.Contour.{across, Walker, stride}

-- no walk is longer
abbrev pub most_strides : ℕ
most_strides = 40000

-- the walker at the start: the id across the starting edge is listed
unfoldable pub first : Net → List ℕ → ℕ → ℕ → Walker
first N ids s d = record { span = s; dir = d; last = across N ids s d; listed = across N ids s d ∷ [] }

-- the walker after k strides
unfoldable pub strides : Net → List ℕ → ℕ → Walker → Walker
strides N ids zero v = v
strides N ids (suc k) v = stride N ids (strides N ids k v)

-- back at the start?
unfoldable pub back_at : ℕ → ℕ → ℕ → ℕ → Bool
back_at s d x y = eqb x s and eqb y d

abbrev pub back : ℕ → ℕ → Walker → Bool
back s d v = back_at s d v.span v.dir

-- a walker on a span of the region `own`
pub record On (N : Net) (ids : List ℕ) (own : ℕ) (v : Walker) : Type 0 where
  pub span : v.span < spans N
  pub dir : v.dir < 4
  pub id : get_or ids v.span 0 ≡ own

-- k strides from the start, and never back
pub record Been (N : Net) (ids : List ℕ) (s d k : ℕ) (v : Walker) : Type 0 where
  pub here : v ≡ strides N ids k (first N ids s d)
  pub never : (i : ℕ) → 0 < i → i ≤ k → back s d (strides N ids i (first N ids s d)) ≡ false

-- the walk comes back to its start within n strides
pub record Returns (N : Net) (ids : List ℕ) (s d n : ℕ) : Type 0 where
  pub steps : ℕ
  pub some : 0 < steps
  pub within : steps ≤ n
  pub home : back s d (strides N ids steps (first N ids s d)) ≡ true
