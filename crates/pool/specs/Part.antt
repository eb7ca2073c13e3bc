-- Parts of the workspace that the merge writes.
use Rattle.std.specs.Prelude.{ℕ, ◌+◌, ◌-◌, ◌≤◌, ◌<◌, ◌≡◌, ◌⊎◌, List, map, length, get_or}
use Rattle.rules.specs.Base.{when◌then◌else◌}
use Rattle.rules.specs.Records.{has}
use Rattle.rules.specs.Merge.{tidy}
use Rattle.pool.specs.Lists.{swap_one}

-- the part a .. e, and room for limit - to numbers at to that lies apart from it
pub record CopyRoom (a e to limit : ℕ) (ws : List ℕ) : Type 0 where
  pub order : a ≤ e
  pub from : e ≤ length ws
  pub room : to + (e - a) ≤ limit
  pub into : limit ≤ length ws
  pub apart : (e ≤ to) ⊎ (limit ≤ a)

-- the first k numbers from a on stand at to
pub record Copied (a to k : ℕ) (ws₀ ws : List ℕ) : Type 0 where
  pub each : (j : ℕ) → j < k → get_or ws (to + j) 0 ≡ get_or ws₀ (a + j) 0

-- a list after old became new
unfoldable pub renamed_list : ℕ → ℕ → List ℕ → List ℕ
renamed_list old new l = when has l old then tidy (map (swap_one old new) l) else l
