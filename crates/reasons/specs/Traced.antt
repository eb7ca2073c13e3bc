-- Growth with the watched span's story beside it, and what a trail of merges comes to.
use Rattle.std.specs.Prelude.{ℕ, List, [], ◌∷◌}
use Rattle.rules.specs.Net.{Net}
use Rattle.rules.specs.Growth.{Turn, turn}
use Rattle.rules.specs.Reasons.{Story, turn_tells}

-- the traced form of a turn: what the plain rule makes, and the story
pub record Told : Type 0 where
  pub turn : Turn
  pub story : Story

unfoldable pub turn_told : Net → List ℕ → ℕ → ℕ → Told → Told
turn_told N dist top k u = record { turn = turn N dist top k u.turn; story = turn_tells N dist top k u.turn u.story }

-- the last number of a list, 0 for none
unfoldable pub last_of : List ℕ → ℕ
last_of [] = 0
last_of (x ∷ []) = x
last_of (x ∷ y ∷ l) = last_of (y ∷ l)
