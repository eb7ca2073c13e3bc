-- The records that bear one id, one after the other: the first is the one whose number the id is, each names the next, and the last names 0, since record 0
-- bears no id. The names stand in the second column to spare; while no record has absorbed another that column is all zeros.
use Rattle.std.specs.Prelude.{ℕ, suc, ◌+◌, ◌≤◌, ◌<◌, ◌≡◌, List, length, get_or}
use Rattle.space.specs.Space.{Frame}
use Rattle.table.specs.Map.{border, nexts_at}
use Rattle.pool.specs.Lists.{swap_one}

-- the record that y names
abbrev pub next_of : List ℕ → ℕ → ℕ → ℕ
next_of ws m y = get_or ws (nexts_at m + y) 0

-- the record that names y, of rank k
pub record Before (m : ℕ) (rank : ℕ → ℕ) (ws : List ℕ) (y k : ℕ) : Type 0 where
  pub who : ℕ
  pub inside : who < m
  pub bears : get_or ws who 0 ≡ get_or ws y 0
  pub ranks : rank who ≡ k
  pub names : next_of ws m who ≡ y

-- the record that y names
pub record After (m : ℕ) (rank : ℕ → ℕ) (ws : List ℕ) (y : ℕ) : Type 0 where
  pub inside : next_of ws m y < m
  pub bears : get_or ws (next_of ws m y) 0 ≡ get_or ws y 0
  pub ranks : rank (next_of ws m y) ≡ suc (rank y)

pub record Bearers (m : ℕ) (ws : List ℕ) : Type 0 where
  pub nobody : 0 < m → get_or ws 0 0 ≡ 0
  -- an id is the number of a record that bears it
  pub owner : (y : ℕ) → y < m → (get_or ws y 0 ≡ 0 → ⊥) → (get_or ws y 0 < m) × (get_or ws (get_or ws y 0) 0 ≡ get_or ws y 0)
  -- how many come before a record
  pub rank : ℕ → ℕ
  pub first : (y : ℕ) → y < m → (get_or ws y 0 ≡ 0 → ⊥) → rank y ≡ 0 → get_or ws y 0 ≡ y
  pub start : (y : ℕ) → y < m → (get_or ws y 0 ≡ 0 → ⊥) → get_or ws y 0 ≡ y → rank y ≡ 0
  pub before : (y k : ℕ) → y < m → (get_or ws y 0 ≡ 0 → ⊥) → rank y ≡ suc k → Before m rank ws y k
  pub after : (y : ℕ) → y < m → (get_or ws y 0 ≡ 0 → ⊥) → (next_of ws m y ≡ 0 → ⊥) → After m rank ws y

-- a is the id of some record
abbrev pub Borne : ℕ → ℕ → List ℕ → Type 0
Borne m a ws = (a < m) × (get_or ws a 0 ≡ a) × (a ≡ 0 → ⊥)

-- all that bore i bear another id
pub record Handed (m i new last : ℕ) (ws ws' : List ℕ) : Type 0 where
  pub ids : (x : ℕ) → x < m → get_or ws' x 0 ≡ swap_one i new (get_or ws x 0)
  pub frame : Frame 0 m ws ws'
  -- the last of them
  pub inside : last < m
  pub bore : get_or ws last 0 ≡ i
  pub names : next_of ws m last ≡ 0

-- all that bore i bear n, and come right after it
pub record Joining (m n i : ℕ) (ws ws' : List ℕ) : Type 0 where
  pub ids : (x : ℕ) → x < m → get_or ws' x 0 ≡ swap_one i n (get_or ws x 0)
  pub bearers : Bearers m ws'
  pub columns : (y : ℕ) → m ≤ y → y < nexts_at m → get_or ws' y 0 ≡ get_or ws y 0
  pub frame : Frame 0 (nexts_at m + m) ws ws'

-- records n and i, which bear their own numbers
pub record Owners (m n i : ℕ) (ws : List ℕ) : Type 0 where
  pub bearers : Bearers m ws
  pub room : nexts_at m + m ≤ length ws
  pub few : m ≤ border
  pub first : n < m
  pub second : i < m
  pub apart : i ≡ n → ⊥
  pub own : get_or ws n 0 ≡ n
  pub own' : get_or ws i 0 ≡ i
  pub some : n ≡ 0 → ⊥
  pub some' : i ≡ 0 → ⊥
