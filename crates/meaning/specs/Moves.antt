-- Moves between spans, what they cost, and chains of them.
use Rattle.std.specs.Prelude.{ℕ, ◌+◌, ◌≤◌, ◌<◌, ◌≡◌, get_or}
use Rattle.rules.specs.Field.{Field, spans, near}
use Rattle.rules.specs.Distance.{start}

-- the corner neighbours that the passes use: "neighbour 0's neighbour 3", "neighbour 3's neighbour 2", "neighbour 2 .., its neighbour 1",
-- "neighbour 1 .., its neighbour 0"
pub data Turns : ℕ → ℕ → Type 0 where
  left_up : Turns 0 3
  up_right : Turns 3 2
  right_down : Turns 2 1
  down_left : Turns 1 0

-- a move from span s to a span, and its cost: "2 for a neighbour, 3 for a move to a neighbour's neighbour as the passes use it"
pub data Move (F : Field) (s : ℕ) : ℕ → ℕ → Type 0 where
  straight : (d : ℕ) → d < 4 → near F s d < spans F → Move F s (near F s d) 2
  cornering : (d e : ℕ) → Turns d e → near F s d < spans F → near F (near F s d) e < spans F → Move F s (near F (near F s d) e) 3

-- a "chain of moves .. ending at a span that started with 0", from span s, and its cost: that of its moves together
pub data Chain (F : Field) : ℕ → ℕ → Type 0 where
  ended : {s : ℕ} → s < spans F → get_or (start F) s 65535 ≡ 0 → Chain F s 0
  moved : {s t k c : ℕ} → Move F s t k → Chain F t c → Chain F s (c + k)

-- the cost of "the cheapest such chain"
pub record Cheapest (F : Field) (s m : ℕ) : Type 0 where
  pub chain : Chain F s m
  pub least : (c : ℕ) → Chain F s c → m ≤ c

-- "one span a cell", or none
abbrev pub Single : Field → Type 0
Single F = (c : ℕ) → get_or F.count c 0 ≤ 1
