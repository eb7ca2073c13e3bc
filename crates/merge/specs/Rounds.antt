-- A round under way, and what the rounds leave.
use Rattle.std.specs.Prelude.{ℕ, ◌+◌, ◌<◌, ◌≡◌, List, get_or}
use Rattle.rules.specs.Merge.{Merge}
use Rattle.table.specs.Map.{spare_at, pool_at, half_of, records_end}
use Rattle.table.specs.View.{recs_of, RecordsIn}
use Rattle.pool.specs.declared.Half.{Half}

-- the records, with so many merges in the round
abbrev pub round_at : ℕ → List ℕ → ℕ → Merge
round_at m ws merges = record { recs = recs_of ws m; merges = merges }

-- before the first: the lists are in the first half, of n spans, and all of it counts as used
abbrev pub first_half : ℕ → ℕ → Half
first_half m n = record { now = pool_at m; other = pool_at m + half_of n; size = half_of n; top = pool_at m + half_of n; links = records_end m n }

-- the records can be read, and the column that the numbering uses is zeros
pub record AtRest (m : ℕ) (ws : List ℕ) : Type 0 where
  pub held : RecordsIn m ws
  pub blank : (x : ℕ) → x < m → get_or ws (spare_at m + x) 0 ≡ 0
