-- New records, made one after the other from the number of spans of each id.
use Rattle.std.specs.Prelude.{◌≡◌, ◌⊎◌, List, ℕ, ◌+◌, ◌≤◌, ◌<◌, length, get_or, set, take, eqb, ltb}
use Rattle.rules.specs.Base.{when◌then◌else◌, many}
use Rattle.table.specs.Map.{areas_at, lists_at, cuts_at, pool_at, floors_from, records_end}
use Rattle.table.specs.View.{list_start, list_end, floors_start, floors_end}
use Rattle.records.specs.Rows.{floors_at}

-- one more span of id r, if that is below m
unfoldable pub tally_one : ℕ → ℕ → List ℕ → List ℕ
tally_one m r ws = when ltb r m then set ws (m + r) (get_or ws (m + r) 0 + 1) else ws

-- how many of the first k spans have each id below m
pub record Tallied (ids : List ℕ) (m k : ℕ) (ws₀ ws : List ℕ) : Type 0 where
  pub low : k ≤ length ids
  pub size : length ws ≡ length ws₀
  pub counts : (i : ℕ) → i < m → get_or ws (m + i) 0 ≡ many (eqb i) (take k ids)
  pub rest : (j : ℕ) → (j < m) ⊎ (areas_at m ≤ j) → get_or ws j 0 ≡ get_or ws₀ j 0

-- the records before i are new; of the others the spans are counted
pub record Renewed (ids : List ℕ) (m i : ℕ) (ws₀ ws : List ℕ) : Type 0 where
  pub low : i ≤ m
  pub size : length ws ≡ length ws₀
  pub names : (j : ℕ) → j < i → get_or ws j 0 ≡ j
  pub empty : (j : ℕ) → j < i → get_or ws (m + j) 0 ≡ 0
  pub counts : (j : ℕ) → i ≤ j → j < m → get_or ws (m + j) 0 ≡ many (eqb j) ids
  pub lists : (j : ℕ) → j < i → (list_start ws m j ≡ pool_at m) × (list_end ws m j ≡ pool_at m)
  pub floors : (j : ℕ) → j < i → (floors_start ws m j ≡ floors_at ids m j) × (floors_end ws m j ≡ floors_at ids m j)
  pub columns : (j : ℕ) → areas_at m ≤ j → j < lists_at m → get_or ws j 0 ≡ 0
  pub pool : (j : ℕ) → cuts_at m ≤ j → j < floors_from m (length ids) → get_or ws j 0 ≡ 0
  pub after : (j : ℕ) → records_end m (length ids) ≤ j → get_or ws j 0 ≡ get_or ws₀ j 0
