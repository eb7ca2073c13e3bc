-- What the distance means (document 02, A13), of lists of raw and of blurred values and a greatest value: each sentence of the request is one field.
use Rattle.std.specs.Prelude.{ℕ, ◌*◌, ◌≤◌, ◌<◌, ◌≡◌, false, List, get_or}
use Rattle.rules.specs.Field.{Field, spans}
use Rattle.rules.specs.Open.{open_field}
use Rattle.rules.specs.Refusals.{too_far}
use Rattle.meaning.specs.Moves.{Single, Chain, Cheapest}
use Rattle.meaning.specs.Open.{span_at, least}

pub record Meant (F : Field) (most : ℕ) (raw blurred : List ℕ) : Type 0 where
  -- "every raw value is the cost of some chain of moves .. ending at a span that started with 0"
  pub chain : (s : ℕ) → s < spans F → Chain F s (get_or raw s 0)
  -- "so no raw value is below the cheapest such chain"
  pub cheapest : (s : ℕ) → s < spans F → (k : ℕ) → Cheapest F s k → k ≤ get_or raw s 0
  -- with one span a cell it is the cheapest chain's
  pub single : Single F → (s : ℕ) → s < spans F → Cheapest F s (get_or raw s 0)
  -- "On an open field the raw value at (x,z) is exactly twice the least of x, z, w−1−x and h−1−z."
  pub wide : (w h : ℕ) → F ≡ open_field w h → (x z : ℕ) → x < w → z < h → get_or raw (span_at w x z) 0 ≡ 2 * least w h x z
  -- "No blurred value exceeds max_distance."
  pub within : (s : ℕ) → get_or blurred s 0 ≤ most
  -- so the region entry never refuses 8 what this entry gives
  pub near : too_far blurred most ≡ false
