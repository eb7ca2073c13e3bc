-- What the records' stage hands over: m records (next id plus 1) in the workspace, of n spans with the ids `ids`.
-- After the columns: the pool's two halves, the lists in the first; then the floors; then room for links.
use Rattle.std.specs.Prelude.{ℕ, ◌+◌, ◌*◌, ◌≤◌, ◌<◌, ◌≡◌, List, length, get_or}
use Rattle.rules.specs.Refusals.{most_spans}
use Rattle.table.specs.Map.{spare_at, pool_at, half_of, floors_from, records_end, links_past}
use Rattle.table.specs.View.{list_start, list_end, floors_start, floors_end, RecordsIn}
use Rattle.numbering.specs.Number.{Spans}
use Rattle.laws.specs.Sums.{sum_to}
use Rattle.pool.specs.Pool.{len_at, count_at}

pub record Ready (m n : ℕ) (ws ids : List ℕ) : Type 0 where
  pub records : m ≤ n + 6
  pub spans : n ≤ most_spans
  -- past the records, room for the links of the lists' places
  pub room : links_past m n ≤ length ws
  -- tables and parts in the workspace, ids and floors below m, what is listed flagged or below m
  pub held : RecordsIn m ws
  -- lists in the first half, floors past the second and before the links
  pub from : (r : ℕ) → r < m → pool_at m ≤ list_start ws m r
  pub upto : (r : ℕ) → r < m → list_end ws m r ≤ pool_at m + half_of n
  pub floors : (r : ℕ) → r < m → floors_from m n ≤ floors_start ws m r
  pub floored : (r : ℕ) → r < m → floors_end ws m r ≤ records_end m n
  -- all lists together, and all counts
  pub lists : sum_to (len_at ws m) m ≤ half_of n
  pub counts : sum_to (count_at ws m) m ≤ n
  -- the two spare columns are zeros
  pub blank : (x : ℕ) → x < 2 * m → get_or ws (spare_at m + x) 0 ≡ 0
  -- a live record bears its own number
  pub own : (x : ℕ) → x < m → (get_or ws x 0 ≡ 0 → ⊥) → get_or ws x 0 ≡ x
  -- a span's id is flagged or a record's
  pub named : Spans m ids
