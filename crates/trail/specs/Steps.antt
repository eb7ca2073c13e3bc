-- A part of the way along a trail.
use Rattle.std.specs.Prelude.{ℕ, ◌+◌, ◌*◌, ◌≤◌, ◌≡◌, List, [], ◌∷◌, ◌++◌, length, take, drop, eqb}
use Rattle.rules.specs.Base.{when◌then◌else◌}
use Rattle.rules.specs.Reasons.{Merging}
use Rattle.trail.specs.Noted.{mergings_from}

-- the ids of a trail before its last: each that a merge absorbs
unfoldable pub left : List Merging → ℕ → List ℕ
left [] r = []
left (x ∷ xs) r = when eqb x.old r then r ∷ left xs x.new else left xs r

-- its last id
unfoldable pub reached : List Merging → ℕ → ℕ
reached [] r = r
reached (x ∷ xs) r = when eqb x.old r then reached xs x.new else reached xs r

-- m merges are noted from b on, and the list has room from place k on
pub record Follows (ws : List ℕ) (b m id k : ℕ) (l : List ℕ) : Type 0 where
  pub noted : b + 2 * m ≤ length ws
  pub room : k + length (left (mergings_from ws b m) id) ≤ length l

-- after them: the id reached, the place past the ids left, and these in the list
pub record Followed (ws : List ℕ) (b m id k : ℕ) (l : List ℕ) (id' k' : ℕ) (l' : List ℕ) : Type 0 where
  pub became : id' ≡ reached (mergings_from ws b m) id
  pub place : k' ≡ k + length (left (mergings_from ws b m) id)
  pub list : l' ≡ take k l ++ (left (mergings_from ws b m) id ++ drop k' l)
