-- Numbering, on columns: the records' present ids are the m numbers from 0 on, the numbers given stand at b.
use Rattle.std.specs.Prelude.{ℕ, suc, ◌+◌, ◌≤◌, ◌<◌, ◌≡◌, List, [], ◌∷◌, map, length, get_or, take, eqb}
use Rattle.rules.specs.Base.{when◌then◌else◌}
use Rattle.rules.specs.Growth.{flagged}
use Rattle.rules.specs.Records.{once, has}
use Rattle.rules.specs.Merge.{place}
use Rattle.rules.specs.Numbering.{number_of, Regions}
use Rattle.table.specs.Map.{Names}

-- live ids so far, and one record more
unfoldable pub step_live : List ℕ → ℕ → List ℕ
step_live l r = when eqb r 0 then l else once l r

unfoldable pub live_ids : List ℕ → List ℕ → List ℕ
live_ids [] l = l
live_ids (r ∷ rs) l = live_ids rs (step_live l r)

-- the number of an id, 0 where it has none yet
unfoldable pub num_in : List ℕ → ℕ → ℕ
num_in l v = when has l v then suc (place l v) else 0

-- a span's id after numbering
unfoldable pub renumber : List ℕ → ℕ → ℕ
renumber ids r = when flagged r then r else number_of (live_ids ids []) (get_or ids r 0)

-- how many are not 0
unfoldable pub nonzero : List ℕ → ℕ
nonzero [] = 0
nonzero (x ∷ l) = when eqb x 0 then nonzero l else suc (nonzero l)

unfoldable pub numbered_by : List ℕ → List ℕ → List ℕ → List ℕ → Regions
numbered_by rids overs marks ids =
    record { ids = map (renumber rids) ids; most = length (live_ids rids []); over = nonzero overs; cut = nonzero marks }

-- the k numbers given so far stand at b
pub record Numbers (m b : ℕ) (ws l : List ℕ) (k : ℕ) : Type 0 where
  pub marks : (v : ℕ) → v < m → get_or ws (b + v) 0 ≡ num_in l v
  pub many : k ≡ length l

-- the column of ids, and blank room at b
pub record Column (m b : ℕ) (ws : List ℕ) : Type 0 where
  pub room : b + m ≤ length ws
  pub apart : m ≤ b
  pub few : m < 65536
  pub ids : (i : ℕ) → i < m → get_or ws i 0 < m

pub record Blank (m b : ℕ) (ws : List ℕ) : Type 0 where
  pub blank : (v : ℕ) → v < m → get_or ws (b + v) 0 ≡ 0

-- the numbers given stand at b
pub record Stand (m b : ℕ) (ws l : List ℕ) : Type 0 where
  pub marks : (v : ℕ) → v < m → get_or ws (b + v) 0 ≡ num_in l v

-- those of all live ids
abbrev pub AllNumbers : ℕ → ℕ → List ℕ → Type 0
AllNumbers m b ws = Stand m b ws (live_ids (take m ws) [])

-- an id that is not flagged is a record's
pub record Spans (m : ℕ) (ids : List ℕ) : Type 0 where
  pub below : (x : ℕ) → Names m (get_or ids x 0)
